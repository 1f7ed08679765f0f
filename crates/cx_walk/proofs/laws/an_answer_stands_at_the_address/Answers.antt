use Rattle.cx_walk.proofs.Found.{walk_stands, walk_found}
use Rattle.cx_walk.proofs.laws.an_answer_stands_at_the_address.Goals as goal

pub returns-clause-address : goal.returns-clause-address
returns-clause-address c = walk_stands

pub returns-clause-found : goal.returns-clause-found
returns-clause-found c = walk_found
