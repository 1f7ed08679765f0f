use Rattle.cx_slices.proofs.Groups.{AreGroups-groups_of, alone_of-groups_of}
use Rattle.cx_slices.proofs.laws.a_slice_goes_alone.Goals as goal

pub returns-clause-slice : goal.returns-clause-slice
returns-clause-slice g c = AreGroups-groups_of

pub returns-clause-goes : goal.returns-clause-goes
returns-clause-goes g c = alone_of-groups_of
