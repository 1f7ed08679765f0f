use Rattle.cx_placing.proofs.Streams.{ends_settled-stopped, ends_settled-whole, run_called-is}
use Rattle.cx_placing.proofs.laws.a_called_run_ends_settled.Goals as goal

pub returns-clause-run : goal.returns-clause-run
returns-clause-run g c = run_called-is

pub returns-clause-whole : goal.returns-clause-whole
returns-clause-whole g c = ends_settled-whole

pub returns-clause-stopped : goal.returns-clause-stopped
returns-clause-stopped g c = ends_settled-stopped
