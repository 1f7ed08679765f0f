use Rattle.cx_seek.proofs.Intervals.{interval-some}
use Rattle.cx_seek.proofs.seeker.Seeker.distance.Goals as goal

pub returns-clause-some : goal.returns-clause-some
returns-clause-some c = rw c.self.invariant.0.distance (interval-some _)
