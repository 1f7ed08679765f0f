use Rattle.cx_commands.proofs.CallsIsolated.{calls_alike, calls_are}
use Rattle.cx_commands.proofs.laws.call_slices_show_one_program.Goals as goal

pub returns-clause-slice : goal.returns-clause-slice
returns-clause-slice c = calls_are

pub returns-clause-alike : goal.returns-clause-alike
returns-clause-alike c = calls_alike
