use Rattle.cx_hart.proofs.SameStep.{is_framed}
use Rattle.cx_hart.proofs.laws.a_step_is_framed.Goals as goal

pub returns : goal.returns
returns c = is_framed
