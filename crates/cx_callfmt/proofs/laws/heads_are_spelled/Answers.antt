use Rattle.cx_callfmt.proofs.Spelled.{head_spelled}
use Rattle.cx_callfmt.proofs.laws.heads_are_spelled.Goals as goal

pub returns : goal.returns
returns c = head_spelled
