use Rattle.cx_salvage.proofs.Cuts.{cut_front, cut_is_known, cut_runs}
use Rattle.cx_salvage.proofs.laws.cuts_run_alike.Goals as goal

pub returns-clause-runs : goal.returns-clause-runs
returns-clause-runs g c = cut_runs

pub returns-clause-front : goal.returns-clause-front
returns-clause-front g c = cut_front

pub returns-clause-known : goal.returns-clause-known
returns-clause-known g c = cut_is_known
