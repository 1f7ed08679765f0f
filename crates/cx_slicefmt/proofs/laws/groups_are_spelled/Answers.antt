use Rattle.cx_slicefmt.proofs.Entries.{groups_spelled}
use Rattle.cx_slicefmt.proofs.laws.groups_are_spelled.Goals as goal

pub returns : goal.returns
returns c = groups_spelled
