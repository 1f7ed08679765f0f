use Rattle.cx_run.proofs.Windows.{window_is_there, window_is_one}
use Rattle.cx_run.proofs.laws.window_is_there_once.Goals as goal

pub returns-clause-there : goal.returns-clause-there
returns-clause-there g c = window_is_there

pub returns-clause-once : goal.returns-clause-once
returns-clause-once g c = window_is_one
