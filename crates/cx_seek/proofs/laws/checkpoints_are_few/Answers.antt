use Rattle.cx_seek.proofs.Intervals.{interval-few, interval-least, interval-power}
use Rattle.cx_seek.proofs.laws.checkpoints_are_few.Goals as goal

pub returns : goal.returns
returns c = record { few = interval-few; power = interval-power; least = interval-least }
