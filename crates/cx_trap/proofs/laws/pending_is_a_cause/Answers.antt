use Rattle.cx_trap.proofs.PendingCauses.{pending_number}
use Rattle.cx_trap.proofs.laws.pending_is_a_cause.Goals as goal

pub returns : goal.returns
returns c = pending_number
