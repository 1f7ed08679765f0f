use Rattle.cx_salvage.proofs.Whole.{not_saved, saved_behind}
use Rattle.cx_salvage.proofs.laws.inputs_are_saved_behind_their_pages.Goals as goal

pub returns-clause-good : goal.returns-clause-good
returns-clause-good g c = saved_behind

pub returns-clause-bad : goal.returns-clause-bad
returns-clause-bad g c = not_saved
