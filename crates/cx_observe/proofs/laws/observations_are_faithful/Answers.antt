use Rattle.cx_observe.proofs.Faithful.{possible_again, possible_by_itself, user_is_faithful, user_is_total}
use Rattle.cx_observe.proofs.laws.observations_are_faithful.Goals as goal

pub returns-clause-faithful : goal.returns-clause-faithful
returns-clause-faithful c = user_is_faithful

pub returns-clause-total : goal.returns-clause-total
returns-clause-total c = user_is_total

pub returns-clause-possible : goal.returns-clause-possible
returns-clause-possible c = λ o. (possible_by_itself o, possible_again o)
