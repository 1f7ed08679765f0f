-- What `upgrade` does: the recording of its input, in version 2.
use Rattle.std.specs.Prelude.{◌≡◌, ℕ, ◌+◌, ◌≤◌, List, ◌++◌, length, None}
use Rattle.cx_hart.specs.HartStep.{hart_step}
use Rattle.cx_hart.specs.declared.record.StepRec.{StepRec}
use Rattle.cx_log.specs.Engine.{Writing}
use Rattle.cx_log.specs.declared.order.Behind.{Behind}
use Rattle.cx_log.specs.Order.{at_start}
use Rattle.cx_log.specs.Reading.{Opened}
use Rattle.cx_log.specs.Recording.{Recorded, Recording}
use Rattle.cx_log.specs.Scan.{Scan, decoded}
use Rattle.cx_log.specs.Text.{header_text, page_count, pages_text, recording_text}
use Rattle.cx_log.specs.declared.header.Header.{Header}
use Rattle.cx_log.specs.declared.limits.TheConstants.{MARK_DISTANCE, STEP_LIMIT}
use Rattle.cx_map.specs.declared.TheConstants.{MOST_PAGES}
use Rattle.cx_run.specs.FirstBad.{first_bad}
use Rattle.cx_run.specs.Run.{Accepts, run_of}
use Rattle.cx_run.specs.Window.{events_between}
use Rattle.cx_run.specs.SoFar.{behind_all, events_text}
use Rattle.cx_commands.specs.Doing.{Doing}
use Rattle.cx_commands.specs.Streaming.{streamed}
use Rattle.cx_commands.specs.Window.{IsTextOf}

-- A recording in version 2: its flag is 0 if it was of version 1, and it is the same if it was of version 2.
abbrev pub upgraded : Recording → Recording
upgraded R = record R { version = 2 }

abbrev pub upgraded_header : Header → List ℕ → Header
upgraded_header header memory = record header { version = 2; count = page_count memory header.pages }

-- the header and the pages, as they stand in front of the records
abbrev pub front_text : Header → List ℕ → List ℕ
front_text header memory = header_text (upgraded_header header memory) ++ pages_text memory header.pages

-- the records of the first steps of an input
abbrev pub first_events : Opened → Scan → ℕ → List Recorded
first_events o s count = events_between o.header.base (o.header.base + count) s.events

abbrev pub start_of_records : Opened → Behind
start_of_records o = at_start o.header.base o.header.start

-- What is written of the first steps: once header and pages were read and are good, these stand before the first step.
abbrev pub upgrade_text : Opened → Scan → List StepRec → List ℕ
upgrade_text o s given =
    front_text o.header o.memory ++ events_text (start_of_records o) (first_events o s (length given))

abbrev pub upgrade_full : Opened → Scan → List ℕ
upgrade_full o s = recording_text (upgraded (decoded o s))

-- `upgrade`: all of the recording, and of what is refused the header, the pages and the records of the settled steps
abbrev pub upgrading : Doing
upgrading = streamed upgrade_text upgrade_full

-- What is written of an input that isn't refused: the recording whose text it is, in version 2. It is accepted, and
-- runs alike; an input of version 2 is written as it is.
pub record IsUpgraded (bytes : List ℕ) (R : Recording) : Type 0 where
  pub is : IsTextOf R bytes
  pub text : upgrading.full bytes ≡ recording_text (upgraded R)
  pub accepted : Accepts (hart_step R.split) (upgraded R)
  pub good : first_bad hart_step (upgrading.full bytes) ≡ None
  pub same_run : (n : ℕ) → run_of (hart_step R.split) (upgraded R) n ≡ run_of (hart_step R.split) R n
  pub same : R.version ≡ 2 → upgrading.full bytes ≡ bytes

-- ---- the parts of a call

-- what is kept beside the writer: it knows the records so far, and no page is owed
pub record IsUpgrading (w : Writing) (pages : ℕ) (behind : Behind) : Type 0 where
  pub pages_are : pages ≡ w.header.pages
  pub behind_is : behind ≡ w.behind
  pub left : w.left ≡ 0
  pub few : pages ≤ MOST_PAGES
  pub mark : behind.mark ≤ STEP_LIMIT + MARK_DISTANCE

-- the records of the first steps were written
pub record HasUpgraded (o : Opened) (s : Scan) (given : List StepRec) (w : Writing) : Type 0 where
  pub pages : w.header.pages ≡ o.header.pages
  pub behind : w.behind ≡ behind_all (start_of_records o) (first_events o s (length given))
