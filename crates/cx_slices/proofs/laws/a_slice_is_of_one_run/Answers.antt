use Rattle.cx_slices.proofs.Groups.{alone_of-only}
use Rattle.cx_slices.proofs.laws.a_slice_is_of_one_run.Goals as goal

pub returns-clause-run : goal.returns-clause-run
returns-clause-run g c = λ m groups count os faithful are went. (alone_of-only m groups count os faithful are went).run

pub returns-clause-groups : goal.returns-clause-groups
returns-clause-groups g c = λ m groups count os faithful are went. (alone_of-only m groups count os faithful are went).groups_are

pub returns-clause-count : goal.returns-clause-count
returns-clause-count g c = λ m groups count os faithful are went. (alone_of-only m groups count os faithful are went).count_is
