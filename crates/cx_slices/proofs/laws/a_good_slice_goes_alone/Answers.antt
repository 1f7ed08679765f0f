use Rattle.cx_slices.proofs.Settled.{alone_is_good, good_goes_alone, settled_at_most}
use Rattle.cx_slices.proofs.laws.a_good_slice_goes_alone.Goals as goal

pub returns-clause-good : goal.returns-clause-good
returns-clause-good g c = λ m s. (good_goes_alone m s, alone_is_good m s)

pub returns-clause-most : goal.returns-clause-most
returns-clause-most g c = settled_at_most
