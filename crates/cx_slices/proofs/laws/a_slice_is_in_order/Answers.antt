use Rattle.cx_slices.proofs.Groups.{GroupsRise-groups_from, groups_are_below}
use Rattle.cx_slices.specs.Items.{items_of, start}
use Rattle.cx_slices.proofs.laws.a_slice_is_in_order.Goals as goal

pub returns-clause-rises : goal.returns-clause-rises
returns-clause-rises g c = λ m os. GroupsRise-groups_from 0 (items_of m (start m) os)

pub returns-clause-below : goal.returns-clause-below
returns-clause-below g c = groups_are_below
