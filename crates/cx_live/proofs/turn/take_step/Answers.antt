use Rattle.cx_hart.specs.Whole.{machine_of}
use Rattle.cx_live.proofs.Taking.{leaves_nothing}
use Rattle.cx_live.proofs.turn.take_step.Goals as goal

pub unreachable-requires : goal.unreachable-requires
unreachable-requires c = leaves_nothing c.args.machine.now.split c.args.lines (machine_of c.args.machine.now) c.in-ValueLeft.ensures.came.1
