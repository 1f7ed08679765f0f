-- What `trace root` does: a line for each observation of a root, as the steps of a recording are settled.
use Rattle.std.specs.Prelude.{ℕ, List}
use Rattle.cx_hart.specs.declared.record.StepRec.{StepRec}
use Rattle.cx_log.specs.Reading.{Opened}
use Rattle.cx_log.specs.Scan.{Scan}
use Rattle.cx_commands.specs.Doing.{Doing}
use Rattle.cx_commands.specs.Observed.{observation_lines, observations_in, occurs_in}
use Rattle.cx_commands.specs.Streaming.{settled_by, sought}

-- the lines of what the first steps show
abbrev pub shown_lines : ℕ → Opened → Scan → List StepRec → List ℕ
shown_lines root o s records = observation_lines 0 (observations_in root records)

-- `trace root`: the lines of all observations, and of what is refused those of the settled steps
abbrev pub tracing_root : ℕ → Doing
tracing_root root = sought (occurs_in root) (shown_lines root) (settled_by (shown_lines root))
