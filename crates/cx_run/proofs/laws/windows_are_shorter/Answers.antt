use Rattle.cx_run.proofs.Shorter.{window_is_shorter}
use Rattle.cx_run.proofs.laws.windows_are_shorter.Goals as goal

pub returns : goal.returns
returns c = window_is_shorter
