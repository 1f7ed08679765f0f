use Rattle.cx_salvage.proofs.Cuts.{window_into, window_out}
use Rattle.cx_salvage.proofs.laws.windows_of_a_cut.Goals as goal

pub returns-clause-out : goal.returns-clause-out
returns-clause-out g c = window_out

pub returns-clause-into : goal.returns-clause-into
returns-clause-into g c = window_into
