use Rattle.cx_alone.proofs.Inputs.{given_may_be, may_be_before, real_may_be}
use Rattle.cx_alone.proofs.laws.an_input_may_be_all_along.Goals as goal

pub returns-clause-before : goal.returns-clause-before
returns-clause-before c = may_be_before

pub returns-clause-given : goal.returns-clause-given
returns-clause-given c = given_may_be

pub returns-clause-real : goal.returns-clause-real
returns-clause-real c = real_may_be
