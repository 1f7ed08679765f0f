use Rattle.cx_commands.proofs.CutSlices.{cut_is_bad}
use Rattle.cx_commands.proofs.laws.no_slice_is_cut.Goals as goal

pub returns : goal.returns
returns c = cut_is_bad
