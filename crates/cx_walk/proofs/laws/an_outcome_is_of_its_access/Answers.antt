use Rattle.cx_walk.proofs.Outcomes.{walk_faults, walk_offset}
use Rattle.cx_walk.proofs.laws.an_outcome_is_of_its_access.Goals as goal

pub returns-clause-offset : goal.returns-clause-offset
returns-clause-offset c = λ word pages s kind va len. walk_offset s kind va word pages len

pub returns-clause-fault : goal.returns-clause-fault
returns-clause-fault c = λ word pages s kind va len. walk_faults s kind va word pages len
