use Rattle.cx_observe.proofs.PossibleRules.{tests_are_rules}
use Rattle.cx_observe.proofs.possibility.possible.Goals as goal

pub returns : goal.returns
returns c = tests_are_rules c.args.obs.now c.passes_all.result c.passes_all.ensures c.is_typed.ensures
