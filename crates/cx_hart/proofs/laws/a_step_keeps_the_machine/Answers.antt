use Rattle.cx_hart.proofs.StepKeeps.{keeps_machine}
use Rattle.cx_hart.proofs.laws.a_step_keeps_the_machine.Goals as goal

pub returns : goal.returns
returns c = keeps_machine
