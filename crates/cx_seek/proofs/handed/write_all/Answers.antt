use Rattle.std.proofs.Common.{◌∙◌}
use Rattle.cx_hart.specs.Whole.{machine_of}
use Rattle.cx_replay.proofs.Steps.{moved_more}
use Rattle.cx_seek.proofs.handed.write_all.Goals as goal

pub loop-index-preserved : goal.loop-index-preserved
loop-index-preserved c =
    let before = c.loop-index.invariant in
    let wrote = c.if-not-write.ensures in
    record {
      machine = moved_more c.args.moves.now c.loop-index.index c.index-moves-index.result
          (machine_of c.args.machine.now) (machine_of c.loop-index.machine) (machine_of c.write.new.machine)
          c.loop-index-test.true c.index-moves-index.is before.machine wrote.machine;
      size = wrote.size ∙ before.size;
      split = wrote.split ∙ before.split;
      saved = wrote.saved ∙ before.saved;
    }
