use Rattle.cx_observe.proofs.UserLaw.{user_step}
use Rattle.cx_observe.proofs.laws.a_user_step_is_its_effect.Goals as goal

pub returns-clause-possible : goal.returns-clause-possible
returns-clause-possible c = λ split m due then pages root o is machine fits shows.
    (user_step split m due then pages root o is machine fits shows).possible

pub returns-clause-effect : goal.returns-clause-effect
returns-clause-effect c = λ split m due then pages root o is machine fits shows retired.
    (user_step split m due then pages root o is machine fits shows).next retired
