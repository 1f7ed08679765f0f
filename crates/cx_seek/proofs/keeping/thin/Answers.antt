use Rattle.std.proofs.Common.{◌+◌, arith, refl}
use Rattle.cx_seek.proofs.Held.{thin_step}
use Rattle.cx_seek.proofs.KeptRuns.{still_on}
use Rattle.cx_seek.proofs.keeping.thin.Goals as goal

pub loop-removed-preserved : goal.loop-removed-preserved
loop-removed-preserved g c =
    let before = c.loop-removed.invariant in
    let forgot = c.forget.ensures in
    let count = before.thinned.count in
    let step = thin_step (g.R.Records.seen c.args.replay.now.records).pages c.loop-removed.removed
    (c.loop-removed.removed + 1) c.remove-gone.result c.args.replay.now.machine.saved c.loop-removed.replay.machine.saved
    c.forget.new.self.machine.saved c.args.checkpoints.now.items c.loop-removed.checkpoints.items
    c.remove-gone.new.self.items refl (omega (arith, count)) c.remove-gone.ensures.value c.remove-gone.ensures.items
    forgot.others before.thinned before.held before.same in
    record {
      still = still_on c.args.replay.now c.loop-removed.replay c.forget.new.self before.still
          (record { machine = forgot.machine; split = forgot.split; rest = forgot.same });
      held = step.1.0;
      thinned = step.0;
      same = step.1.1;
    }
