use Rattle.cx_callfmt.proofs.Whole.{call_slice_again, call_slice_cut, call_slice_once}
use Rattle.cx_callfmt.proofs.laws.call_slices_have_one_text.Goals as goal

pub returns-clause-again : goal.returns-clause-again
returns-clause-again c = call_slice_again

pub returns-clause-cut : goal.returns-clause-cut
returns-clause-cut c = call_slice_cut

pub returns-clause-once : goal.returns-clause-once
returns-clause-once c = call_slice_once
