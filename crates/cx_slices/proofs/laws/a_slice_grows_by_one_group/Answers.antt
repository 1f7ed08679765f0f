use Rattle.cx_slices.proofs.Streams.{IsPossibleRun-pop, IsPossibleRun-push, groups_of-push}
use Rattle.cx_slices.proofs.laws.a_slice_grows_by_one_group.Goals as goal

pub returns-clause-group : goal.returns-clause-group
returns-clause-group g c = groups_of-push

pub returns-clause-more : goal.returns-clause-more
returns-clause-more g c = IsPossibleRun-push

pub returns-clause-less : goal.returns-clause-less
returns-clause-less g c = IsPossibleRun-pop
