use Rattle.cx_run.proofs.TapedAccepted.{taped_is_accepted}
use Rattle.cx_run.proofs.TapedOrder.{events_in_order}
use Rattle.cx_run.proofs.TapedSizes.{records_are_short}
use Rattle.cx_run.proofs.taping.a_taped_run_is_accepted.Goals as goal

pub returns-clause-order : goal.returns-clause-order
returns-clause-order g c = events_in_order

pub returns-clause-accepted : goal.returns-clause-accepted
returns-clause-accepted g c = taped_is_accepted

pub returns-clause-size : goal.returns-clause-size
returns-clause-size g c = records_are_short
