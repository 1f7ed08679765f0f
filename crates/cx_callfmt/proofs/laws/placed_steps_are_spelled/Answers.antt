use Rattle.cx_callfmt.proofs.Steps.{steps_spelled}
use Rattle.cx_callfmt.proofs.laws.placed_steps_are_spelled.Goals as goal

pub returns : goal.returns
returns c = steps_spelled
