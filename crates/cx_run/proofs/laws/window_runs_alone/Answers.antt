use Rattle.cx_run.proofs.Alone.{window_runs_alone, window_records}
use Rattle.cx_run.proofs.laws.window_runs_alone.Goals as goal

pub returns-clause-steps : goal.returns-clause-steps
returns-clause-steps g c = window_runs_alone

pub returns-clause-whole : goal.returns-clause-whole
returns-clause-whole g c = window_records
