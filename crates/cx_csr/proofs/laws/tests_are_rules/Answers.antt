use Rattle.cx_csr.proofs.RuleTests.{obeys, passes}
use Rattle.cx_csr.proofs.laws.tests_are_rules.Goals as goal

pub returns : goal.returns
returns c = λ pages before word rule. (obeys pages before word rule, passes pages before word rule)
