use Rattle.cx_slices.proofs.Runs.{possible_is_run, run_is_possible}
use Rattle.cx_slices.proofs.laws.possible_observations_are_a_run.Goals as goal

pub returns-clause-run : goal.returns-clause-run
returns-clause-run g c = possible_is_run

pub returns-clause-possible : goal.returns-clause-possible
returns-clause-possible g c = run_is_possible
