use Rattle.cx_hart.proofs.StepSizes.{sets_lines}
use Rattle.cx_hart.proofs.laws.a_step_sets_the_lines.Goals as goal

pub returns : goal.returns
returns c = sets_lines
