use Rattle.cx_run.proofs.TapedEvents.{due_here, none_below}
use Rattle.cx_run.proofs.TapedRuns.{taped_runs}
use Rattle.cx_run.proofs.taping.a_taped_run_runs_again.Goals as goal

pub returns-clause-here : goal.returns-clause-here
returns-clause-here g c = due_here

pub returns-clause-below : goal.returns-clause-below
returns-clause-below g c = none_below

pub returns-clause-run : goal.returns-clause-run
returns-clause-run g c = taped_runs
