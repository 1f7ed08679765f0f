use Rattle.cx_callfmt.proofs.Whole.{no_slice_front}
use Rattle.cx_callfmt.proofs.laws.no_call_slice_is_a_front.Goals as goal

pub returns : goal.returns
returns c = no_slice_front
