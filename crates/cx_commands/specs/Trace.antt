-- What `trace all` does: the lines of the steps of a recording.
use Rattle.std.specs.Prelude.{ℕ, suc, List, [], ◌∷◌, ◌++◌}
use Rattle.cx_hart.specs.declared.record.StepRec.{StepRec}
use Rattle.cx_log.specs.Reading.{Opened}
use Rattle.cx_log.specs.Scan.{Scan}
use Rattle.cx_print.specs.Lines.{step_line}
use Rattle.cx_commands.specs.Doing.{Doing}
use Rattle.cx_commands.specs.Streaming.{settled_by, streamed}

-- the lines of steps, from one on
abbrev pub lines_from : ℕ → List StepRec → List ℕ
lines_from step [] = []
lines_from step (rec ∷ records) = step_line step rec ++ lines_from (suc step) records

-- the text of the first steps of a recording
abbrev pub line_text : Opened → Scan → List StepRec → List ℕ
line_text o s records = lines_from o.header.base records

-- `trace all`: all lines, and of what is refused those of the steps that are settled
abbrev pub tracing : Doing
tracing = streamed line_text (settled_by line_text)
