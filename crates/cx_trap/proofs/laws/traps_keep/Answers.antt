use Rattle.cx_trap.proofs.KeptRules.{keeps-entered}
use Rattle.cx_trap.proofs.laws.traps_keep.Goals as goal

pub returns : goal.returns
returns c = keeps-entered
