-- What `calls` does: the slice of the program that runs over a root, by its calls.
use Rattle.std.specs.Prelude.{ℕ, List}
use Rattle.cx_calls.specs.Begun.{calls_begun, calls_text}
use Rattle.cx_hart.specs.declared.record.StepRec.{StepRec}
use Rattle.cx_log.specs.Reading.{Opened}
use Rattle.cx_log.specs.Scan.{Scan}
use Rattle.cx_commands.specs.Doing.{Doing}
use Rattle.cx_commands.specs.Observed.{observations_in, observed_by, occurs_in}
use Rattle.cx_commands.specs.Streaming.{sought}

-- What is written of the first steps, which ends before the last call, and of all.
abbrev pub begun_calls : ℕ → Opened → Scan → List StepRec → List ℕ
begun_calls root o s records = calls_begun (observations_in root records)

abbrev pub whole_calls : ℕ → Opened → Scan → List ℕ
whole_calls root o s = calls_text (observed_by root o s)

-- `calls`: the slice, and of what is refused what stands of it before the last call of the settled steps
abbrev pub calling : ℕ → Doing
calling root = sought (occurs_in root) (begun_calls root) (whole_calls root)
