use Rattle.cx_seek.proofs.Intervals.{interval-doubles, interval-first, interval-most, interval-stays}
use Rattle.cx_seek.proofs.laws.distance_is_doubled_at_64.Goals as goal

pub returns : goal.returns
returns c = record { first = interval-first; stays = interval-stays; doubles = interval-doubles; most = interval-most }
