use Rattle.cx_run.proofs.StepEvents.{events_of_step, step_more}
use Rattle.cx_run.proofs.laws.events_of_a_step_are_due.Goals as goal

pub returns-clause-step : goal.returns-clause-step
returns-clause-step c = events_of_step

pub returns-clause-more : goal.returns-clause-more
returns-clause-more c = step_more
