use Rattle.cx_window.proofs.Again.{runs_again}
use Rattle.cx_window.proofs.laws.a_slice_runs_again.Goals as goal

pub returns : goal.returns
returns c = runs_again
