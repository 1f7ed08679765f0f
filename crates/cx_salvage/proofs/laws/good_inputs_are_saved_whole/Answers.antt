use Rattle.cx_salvage.proofs.Whole.{saved_whole}
use Rattle.cx_salvage.proofs.laws.good_inputs_are_saved_whole.Goals as goal

pub returns : goal.returns
returns g c = saved_whole
