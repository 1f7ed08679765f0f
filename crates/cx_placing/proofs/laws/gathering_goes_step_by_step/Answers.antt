use Rattle.cx_placing.specs.Gathering.{gathered_none}
use Rattle.cx_placing.proofs.Gathering.{count_of, gathered_on-push, known_on}
use Rattle.cx_placing.proofs.laws.gathering_goes_step_by_step.Goals as goal

pub returns-clause-more : goal.returns-clause-more
returns-clause-more g c = λ m called os o. gathered_on-push m called (gathered_none m) os o

pub returns-clause-known : goal.returns-clause-known
returns-clause-known g c = λ m called os. known_on m called (gathered_none m) os

pub returns-clause-count : goal.returns-clause-count
returns-clause-count g c = count_of
