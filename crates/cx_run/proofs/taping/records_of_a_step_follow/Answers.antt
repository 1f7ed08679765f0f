use Rattle.cx_run.proofs.TapedOrder.{lines_put, mark_puts, may_end, no_mark_puts, ready_first_is, step_is_done}
use Rattle.cx_run.proofs.TapedOrder.{transfer_puts, value_puts, wider}
use Rattle.cx_run.proofs.taping.records_of_a_step_follow.Goals as goal

pub returns-clause-first : goal.returns-clause-first
returns-clause-first c = ready_first_is

pub returns-clause-mark : goal.returns-clause-mark
returns-clause-mark c = mark_puts

pub returns-clause-no_mark : goal.returns-clause-no_mark
returns-clause-no_mark c = no_mark_puts

pub returns-clause-transfer : goal.returns-clause-transfer
returns-clause-transfer c = transfer_puts

pub returns-clause-wider : goal.returns-clause-wider
returns-clause-wider c = wider

pub returns-clause-lines : goal.returns-clause-lines
returns-clause-lines c = lines_put

pub returns-clause-value : goal.returns-clause-value
returns-clause-value c = value_puts

pub returns-clause-step : goal.returns-clause-step
returns-clause-step c = step_is_done

pub returns-clause-end : goal.returns-clause-end
returns-clause-end c = may_end
