-- What opening a seeker gives.
use Rattle.std.specs.Prelude.{◌≡◌, ℕ, None, Result, Ok, Err}
use Rattle.cx_hart.specs.HartStep.{hart_step}
use Rattle.cx_log.specs.Reading.{Opened}
use Rattle.cx_log.specs.Scan.{Scan, decoded}
use Rattle.cx_log.specs.declared.header.Header.{Header}
use Rattle.cx_replay.specs.declared.fault.ReplayFault.{ReplayFault}
use Rattle.cx_run.specs.FirstBad.{bad_behind}
use Rattle.cx_seek.specs.Keeping.{StopsFor}
use Rattle.cx_seek.specs.Seeking.{IsOf, Seeking}
use Rattle.cx_seek.specs.declared.course.Course.{Course}
use Rattle.cx_seek.specs.declared.keeping.Keeping.{Keeping}

-- what was kept of the run of a recording with this header, up to its end
abbrev pub course_of : Header → ℕ → Keeping → Course
course_of header end kept = record {
  base = header.base;
  end = end;
  pages = header.pages;
  distance = kept.distance;
  checkpoints = kept.checkpoints;
  notes = kept.notes;
}

-- Nothing is bad in the input, and the seeker stands at the end of its recording.
pub record HasOpened (o : Opened) (whole : Scan) (s : Seeking) : Type 0 where
  pub good : bad_behind hart_step o whole ≡ None
  pub seeks : IsOf (decoded o whole) s
  pub at : s.player.at ≡ whole.upto

abbrev pub Opens : Opened → Scan → ℕ → (may cut : Type 0) → Result Seeking ReplayFault → Type 0
Opens o whole end may cut (Ok s) = may → HasOpened o whole s
Opens o whole end may cut (Err e) = StopsFor o whole end may cut e
