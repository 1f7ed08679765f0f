use Rattle.cx_run.proofs.Again.{window_runs_again}
use Rattle.cx_run.proofs.laws.a_window_runs_again.Goals as goal

pub returns : goal.returns
returns g c = window_runs_again
