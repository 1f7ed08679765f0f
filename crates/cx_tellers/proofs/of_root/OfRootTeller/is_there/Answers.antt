use Rattle.cx_commands.specs.Observed.{observations_in}
use Rattle.cx_tellers.proofs.ShownTold.{found_is}
use Rattle.cx_tellers.proofs.of_root.OfRootTeller.is_there.Goals as goal

pub returns-clause-there : goal.returns-clause-there
returns-clause-there g c asked o whole given keeps =
    found_is (observations_in asked given) c.told.result (c.told.ensures.all (observations_in asked given) keeps.keeps)
