use Rattle.cx_commands.proofs.CutCalls.{cut_call_is_bad}
use Rattle.cx_commands.proofs.laws.no_call_slice_is_cut.Goals as goal

pub returns : goal.returns
returns c = cut_call_is_bad
