use Rattle.cx_slices.proofs.Streams.{run_alone-push, run_alone-stopped}
use Rattle.cx_slices.proofs.laws.a_run_alone_goes_step_by_step.Goals as goal

pub returns-clause-more : goal.returns-clause-more
returns-clause-more g c = run_alone-push

pub returns-clause-stopped : goal.returns-clause-stopped
returns-clause-stopped g c = run_alone-stopped
