use Rattle.cx_commands.specs.Observed.{observations_in}
use Rattle.cx_tellers.proofs.ShownTold.{all_told}
use Rattle.cx_tellers.proofs.of_root.OfRootTeller.finish.Goals as goal

pub returns-clause-finishes : goal.returns-clause-finishes
returns-clause-finishes g c asked o whole given base all so_far =
    all_told g.L.ObservationTeller.full asked o whole given c.args._end base _ _ all
    (c.finish.ensures.finishes (observations_in asked given) base
    (record { stands = so_far.stands; keeps = so_far.keeps.keeps }))
