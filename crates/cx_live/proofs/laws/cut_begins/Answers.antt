use Rattle.cx_live.proofs.LiveLoop.{cut_begins}
use Rattle.cx_live.proofs.laws.cut_begins.Goals as goal

pub returns : goal.returns
returns c = cut_begins
