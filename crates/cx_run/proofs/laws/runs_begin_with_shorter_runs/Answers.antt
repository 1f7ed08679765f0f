use Rattle.cx_run.proofs.Runs.{run_of-fewer, run_of-front, length-records}
use Rattle.cx_run.proofs.laws.runs_begin_with_shorter_runs.Goals as goal

pub returns-clause-shorter : goal.returns-clause-shorter
returns-clause-shorter g c = run_of-fewer

pub returns-clause-front : goal.returns-clause-front
returns-clause-front g c = run_of-front

pub returns-clause-count : goal.returns-clause-count
returns-clause-count g c = length-records
