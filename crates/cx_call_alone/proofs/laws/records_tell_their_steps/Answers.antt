use Rattle.cx_call_alone.proofs.Placed.{placed_back}
use Rattle.cx_call_alone.proofs.laws.records_tell_their_steps.Goals as goal

pub returns : goal.returns
returns c = placed_back
