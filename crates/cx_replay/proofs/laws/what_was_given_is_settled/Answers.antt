use Rattle.cx_replay.proofs.Standing.{carried_all, carried_broken}
use Rattle.cx_replay.proofs.laws.what_was_given_is_settled.Goals as goal

pub returns-clause-all : goal.returns-clause-all
returns-clause-all g c records gave input end o whole given m p stands all = carried_all stands all

pub returns-clause-broken : goal.returns-clause-broken
returns-clause-broken g c = carried_broken
