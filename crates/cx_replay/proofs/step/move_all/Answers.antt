use Rattle.std.proofs.Common.{◌∙◌}
use Rattle.cx_hart.specs.Whole.{machine_of}
use Rattle.cx_replay.proofs.Steps.{moved_more}
use Rattle.cx_replay.proofs.step.move_all.Goals as goal

pub loop-n-preserved : goal.loop-n-preserved
loop-n-preserved c =
    let before = c.loop-n.invariant in
    record {
      machine = moved_more c.args.moves.now c.loop-n.n c.index-moves-n.result (machine_of c.args.machine.now)
          (machine_of c.loop-n.machine)
          (machine_of c.move_one.new.machine) c.loop-n-test.true c.index-moves-n.is before.machine
          c.in_ok-move_one.ensures.machine;
      size = c.in_ok-move_one.ensures.size ∙ before.size;
      split = c.in_ok-move_one.ensures.split ∙ before.split;
      saved = c.in_ok-move_one.ensures.saved ∙ before.saved;
    }
