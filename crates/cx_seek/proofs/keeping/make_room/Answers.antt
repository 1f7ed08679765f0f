use Rattle.std.proofs.Common.{◌*◌, refl}
use Rattle.cx_seek.proofs.KeptRuns.{few_kept, full_keeps, full_kept}
use Rattle.cx_seek.proofs.keeping.make_room.Goals as goal

pub returns-then-taken-keeping-eq-MOST_CHECKPOINTS-clause-kept : goal.returns-then-taken-keeping-eq-MOST_CHECKPOINTS-clause-kept
returns-then-taken-keeping-eq-MOST_CHECKPOINTS-clause-kept g c =
    full_kept (g.R.Records.seen c.args.replay.now.records).pages c.args.taken c.args.replay.now.machine.saved
    c.thin.new.replay.machine.saved c.args.keeping.now (record {
      checkpoints = c.thin.new.checkpoints;
      distance = c.args.keeping.now.distance * 2;
      notes = c.args.keeping.now.notes;
    }) c.requires.some c.ranges.taken.fits c.requires.kept c.if-taken-keeping-eq-MOST_CHECKPOINTS.true
    c.thin.ensures.held c.thin.ensures.thinned refl

pub returns-then-taken-keeping-eq-MOST_CHECKPOINTS-clause-keeps : goal.returns-then-taken-keeping-eq-MOST_CHECKPOINTS-clause-keeps
returns-then-taken-keeping-eq-MOST_CHECKPOINTS-clause-keeps g c run upto keeps =
    full_keeps run (g.R.Records.seen c.args.replay.now.records).pages c.args.taken upto
    c.args.replay.now.machine.saved c.thin.new.replay.machine.saved c.args.keeping.now (record {
      checkpoints = c.thin.new.checkpoints;
      distance = c.args.keeping.now.distance * 2;
      notes = c.args.keeping.now.notes;
    }) c.requires.some c.ranges.taken.fits c.requires.kept c.if-taken-keeping-eq-MOST_CHECKPOINTS.true
    c.thin.ensures.thinned c.thin.ensures.same refl refl keeps

pub returns-else-taken-keeping-eq-MOST_CHECKPOINTS-clause-kept : goal.returns-else-taken-keeping-eq-MOST_CHECKPOINTS-clause-kept
returns-else-taken-keeping-eq-MOST_CHECKPOINTS-clause-kept g c =
    few_kept (g.R.Records.seen c.args.replay.now.records).pages c.args.taken c.args.replay.now.machine.saved
    c.args.keeping.now c.requires.some c.ranges.taken.fits c.requires.kept
    c.if-taken-keeping-eq-MOST_CHECKPOINTS.false
