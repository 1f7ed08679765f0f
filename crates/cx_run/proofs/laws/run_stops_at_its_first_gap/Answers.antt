use Rattle.cx_run.proofs.BuiltSteps.{run_of-built_steps, built_steps-le, built_steps-whole, run_of-past_built_steps}
use Rattle.cx_run.proofs.BuiltSteps.{first_step_that_stops}
use Rattle.cx_run.proofs.laws.run_stops_at_its_first_gap.Goals as goal

pub returns-clause-there : goal.returns-clause-there
returns-clause-there g c = run_of-built_steps

pub returns-clause-most : goal.returns-clause-most
returns-clause-most g c = built_steps-le

pub returns-clause-whole : goal.returns-clause-whole
returns-clause-whole g c = built_steps-whole

pub returns-clause-beyond : goal.returns-clause-beyond
returns-clause-beyond g c = run_of-past_built_steps

pub returns-clause-gap : goal.returns-clause-gap
returns-clause-gap g c = first_step_that_stops
