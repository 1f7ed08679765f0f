use Rattle.cx_run.proofs.WindowOfWindow.{window_of_window}
use Rattle.cx_run.proofs.laws.window_of_window.Goals as goal

pub returns : goal.returns
returns g c = window_of_window
