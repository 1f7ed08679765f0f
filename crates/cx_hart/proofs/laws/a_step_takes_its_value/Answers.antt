use Rattle.cx_hart.proofs.StepTakes.{leaves_none, takes_any, takes_due, writes_bytes}
use Rattle.cx_hart.proofs.laws.a_step_takes_its_value.Goals as goal

pub returns-clause-takes : goal.returns-clause-takes
returns-clause-takes c = takes_any

pub returns-clause-leaves : goal.returns-clause-leaves
returns-clause-leaves c = leaves_none

pub returns-clause-value : goal.returns-clause-value
returns-clause-value c = takes_due

pub returns-clause-bytes : goal.returns-clause-bytes
returns-clause-bytes c = writes_bytes
