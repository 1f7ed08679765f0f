use Rattle.cx_seek.specs.Checkpoints.{AreHeld}
use Rattle.cx_seek.specs.Keeping.{IsStill}
use Rattle.cx_seek.specs.Thinned.{IsThinned, SameMoments}
use Rattle.cx_seek.proofs.keeping.thin.Given as goal

abbrev pub invariant-loop-removed : goal.invariant-loop-removed
invariant-loop-removed g l = record {
  still : IsStill l.fn.replay l.replay;
  held : AreHeld (g.R.Records.seen l.fn.replay.records).pages l.replay.machine.saved l.checkpoints.items;
  thinned : IsThinned l.removed l.fn.checkpoints.items l.checkpoints.items;
  same : SameMoments l.fn.replay.machine.saved l.replay.machine.saved l.checkpoints.items;
}
