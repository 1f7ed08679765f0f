use Rattle.cx_commands.proofs.CallsIsolated.{called_as, calls_are_replayed, called_lines}
use Rattle.cx_commands.proofs.laws.call_slices_are_replayed.Goals as goal

pub returns-clause-good : goal.returns-clause-good
returns-clause-good c = calls_are_replayed

pub returns-clause-lines : goal.returns-clause-lines
returns-clause-lines c = called_lines

pub returns-clause-calls : goal.returns-clause-calls
returns-clause-calls c = called_as
