use Rattle.cx_salvage.proofs.Marks.{nothing_saved, saved_to_mark}
use Rattle.cx_salvage.proofs.laws.inputs_are_saved_to_their_last_good_mark.Goals as goal

pub returns-clause-mark : goal.returns-clause-mark
returns-clause-mark g c = saved_to_mark

pub returns-clause-nothing : goal.returns-clause-nothing
returns-clause-nothing g c = nothing_saved
