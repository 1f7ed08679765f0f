use Rattle.cx_walk.proofs.SameTrail.{same_walk}
use Rattle.cx_walk.proofs.laws.a_walk_reads_only_its_places.Goals as goal

pub returns : goal.returns
returns c = same_walk
