use Rattle.cx_commands.proofs.Isolated.{slice_is, slices_alike}
use Rattle.cx_commands.proofs.laws.slices_show_one_program.Goals as goal

pub returns-clause-slice : goal.returns-clause-slice
returns-clause-slice c = slice_is

pub returns-clause-alike : goal.returns-clause-alike
returns-clause-alike c = slices_alike
