use Rattle.cx_hart.proofs.Arms.{compute_ends, compute_stops}
use Rattle.cx_hart.proofs.carry.compute.Goals as goal

pub returns-in-Ok : goal.returns-in-Ok
returns-in-Ok g c =
    compute_ends (g.R.Tells.knows c.args.rec.now) (g.R.Tells.knows c.args.rec.now) (g.R.Tells.knows c.args.rec.now)
    c.args.split c.args.ram.now.memory c.args.state.now c.args.word c.args.ins.now c.in-Ok.effect c.pass_to.new.state
    c.requires.computes c.in-Ok.ensures.effect c.pass_to.ensures

pub returns-in-Err : goal.returns-in-Err
returns-in-Err g c =
    compute_stops (g.R.Tells.knows c.args.rec.now) (g.R.Tells.knows c.args.rec.now)
    (g.R.Tells.knows c.misaligned.new.rec)
    c.args.split c.args.ram.now.memory c.args.state.now c.args.word c.args.ins.now c.in-Err.bad
    c.misaligned.result c.misaligned.new.state c.requires.computes c.in-Err.ensures.effect c.misaligned.ensures
