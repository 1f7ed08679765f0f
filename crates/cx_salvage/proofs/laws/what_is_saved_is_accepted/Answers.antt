use Rattle.cx_salvage.proofs.Accepted.{saved_accepted}
use Rattle.cx_salvage.proofs.laws.what_is_saved_is_accepted.Goals as goal

pub returns : goal.returns
returns g c = saved_accepted
