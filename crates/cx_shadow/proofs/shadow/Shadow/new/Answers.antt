use Rattle.cx_shadow.proofs.Tables.{nothing_there}
use Rattle.cx_shadow.proofs.shadow.Shadow.new.Goals as goal

pub returns : goal.returns
returns c = record { none = λ va. nothing_there _ va c.new.ensures.items }
