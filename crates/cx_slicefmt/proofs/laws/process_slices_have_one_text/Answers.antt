use Rattle.cx_slicefmt.proofs.Whole.{slice_again, slice_cut, slice_once, slice_size}
use Rattle.cx_slicefmt.proofs.laws.process_slices_have_one_text.Goals as goal

pub returns-clause-again : goal.returns-clause-again
returns-clause-again c = slice_again

pub returns-clause-cut : goal.returns-clause-cut
returns-clause-cut c = slice_cut

pub returns-clause-spelled : goal.returns-clause-spelled
returns-clause-spelled c = λ bytes are good. (slice_once bytes are good).spelled

pub returns-clause-text : goal.returns-clause-text
returns-clause-text c = λ bytes are good. (slice_once bytes are good).text

pub returns-clause-size : goal.returns-clause-size
returns-clause-size c = slice_size
