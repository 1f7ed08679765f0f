-- What a seeker stands for: a step of the run of a recording.
use Rattle.std.specs.Prelude.{◌≡◌, ℕ, ◌+◌, ◌-◌, ◌<◌, ◌≤◌, nat_le, ◌&&◌, Bool, true, false, List, drop, length, Option, None, Some}
use Rattle.std.specs.Prelude.{IsSome, Result, Ok, Err}
use Rattle.cx_hart.specs.HartStep.{hart_step}
use Rattle.cx_hart.specs.Whole.{Whole, machine_of}
use Rattle.cx_hart.specs.declared.record.StepRec.{StepRec}
use Rattle.cx_log.specs.Recording.{Recording}
use Rattle.cx_machine.specs.Due.{Due}
use Rattle.cx_machine.specs.Step.{Step, Stepped}
use Rattle.cx_map.specs.Map.{size_of_pages}
use Rattle.cx_run.specs.Due.{due_at}
use Rattle.cx_run.specs.Run.{Run, run_of}
use Rattle.cx_seek.specs.Checkpoints.{AreCheckpoints, AreHeld, IsMachineAt}
use Rattle.cx_seek.specs.Dues.{Hands, Noted}
use Rattle.cx_seek.specs.Interval.{interval}
use Rattle.cx_seek.specs.Keeping.{Spaced}
use Rattle.cx_seek.specs.declared.course.Course.{Course}
use Rattle.cx_seek.specs.declared.player.Player.{Player}

-- ---- the steps of a run

abbrev pub step_on : {Rec : Type 0} → Step Rec → Due → Option (Run Rec) → Option (Stepped Rec)
step_on step due None = None
step_on step due (Some run) = step run.machine due

-- Step n of a recording's run: its record, and the machine behind it.
unfoldable pub taken : Recording → ℕ → Option (Stepped StepRec)
taken R n = step_on (hart_step R.split) (due_at R.events n) (run_of (hart_step R.split) R (n - R.base))

-- ---- the seeker

-- What it keeps of the run, and where it stands.
pub record Seeking : Type 0 where
  pub course : Course
  pub player : Player

-- n is the number of a step of the run, or of its end.
abbrev pub is_in : Seeking → ℕ → Bool
is_in s n = nat_le s.course.base n && nat_le n s.course.end

-- how far apart its checkpoints stand
abbrev pub distance_in : Seeking → ℕ
distance_in s = interval (s.course.end - s.course.base)

-- It keeps what it kept.
pub record IsSameCourse (old new : Seeking) : Type 0 where
  pub course : new.course ≡ old.course
  pub saved : new.player.machine.saved ≡ old.player.machine.saved

-- ---- what holds of it, whatever its source told

-- The machine can be put back to each checkpoint, and these stand where the run's length asks for.
pub record IsCourse (c : Course) (machine : Whole) : Type 0 where
  pub order : c.base ≤ c.end
  pub size : length machine.memory ≡ size_of_pages c.pages
  pub held : AreHeld c.pages machine.saved c.checkpoints.items
  pub distance : c.distance ≡ interval (c.end - c.base)
  pub spaced : Spaced (c.end - c.base) (length c.checkpoints.items) c.distance

-- It stands at a step or at the end.
pub record IsWithin (c : Course) (p : Player) : Type 0 where
  pub from : c.base ≤ p.at
  pub to : p.at ≤ c.end

-- the machine keeps its moments, its flag and its size
pub record IsSameMachine (old new : Whole) : Type 0 where
  pub size : length new.memory ≡ length old.memory
  pub split : new.split ≡ old.split
  pub saved : new.saved ≡ old.saved

-- ---- what it is of a recording

-- It is kept of the run of R, each step of which is carried out.
pub record IsRunOf (R : Recording) (c : Course) (machine : Whole) : Type 0 where
  pub base : c.base ≡ R.base
  pub end : c.end ≡ R.end
  pub pages : c.pages ≡ R.pages
  pub split : machine.split ≡ R.split
  pub unbroken : IsSome (run_of (hart_step R.split) R (R.end - R.base))
  pub checkpoints : AreCheckpoints R machine.saved c.notes R.end c.distance c.checkpoints.items

-- The machine is that of the run before the step at which it stands, and the notes say what is due from there on.
pub record StandsIn (R : Recording) (notes : List Noted) (p : Player) : Type 0 where
  pub there : IsMachineAt R p.at (machine_of p.machine)
  pub hands : Hands R.events p.at R.end (drop p.next notes)

-- It seeks in R.
pub record IsOf (R : Recording) (s : Seeking) : Type 0 where
  pub run : IsRunOf R s.course s.player.machine
  pub stands : StandsIn R s.course.notes s.player

-- A step forward: the run's own, or none exactly at the end.
abbrev pub GoesForward : Recording → Seeking → Option StepRec → Seeking → Type 0
GoesForward R old None new = (old.player.at ≡ R.end) × (new ≡ old)
GoesForward R old (Some rec) new =
    (old.player.at < R.end) × ((new.player.at ≡ old.player.at + 1)
    × (taken R old.player.at ≡ Some (record { machine = machine_of new.player.machine; rec = rec })))

-- unless memory is refused
abbrev pub Forwards : {E : Type 0} → Recording → Seeking → Seeking → Result (Option StepRec) E → Type 0
Forwards R old new (Ok gave) = GoesForward R old gave new
Forwards R old new (Err e) = Unit {0}

-- the answer of a step that is told in a record of the caller's
abbrev pub told_as : {E : Type 0} → StepRec → Result Bool E → Result (Option StepRec) E
told_as rec (Ok true) = Ok (Some rec)
told_as rec (Ok false) = Ok None
told_as rec (Err e) = Err e
