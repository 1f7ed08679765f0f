use Rattle.cx_salvage.proofs.Kept.{kept_begins, kept_none, kept_to}
use Rattle.cx_salvage.proofs.laws.what_stands_fast_grows_with_good_marks.Goals as goal

pub returns-clause-begins : goal.returns-clause-begins
returns-clause-begins g c = kept_begins

pub returns-clause-mark : goal.returns-clause-mark
returns-clause-mark g c = kept_to

pub returns-clause-nothing : goal.returns-clause-nothing
returns-clause-nothing g c = kept_none
