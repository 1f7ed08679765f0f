use Rattle.cx_hart.specs.Whole.{machine_of}
use Rattle.cx_live.proofs.Taking.{asks_once, takes_value}
use Rattle.cx_live.proofs.turn.step_answered.Goals as goal

pub unreachable-requires : goal.unreachable-requires
unreachable-requires c =
    asks_once c.args.machine.now.split c.args.lines (machine_of c.args.machine.now) c.args.what c.in-NeedsValue.field-0 c.answer-value.result c.requires.asks
    c.in-NeedsValue.ensures.came.1

pub unreachable-requires-in-ValueLeft : goal.unreachable-requires-in-ValueLeft
unreachable-requires-in-ValueLeft c =
    takes_value c.args.machine.now.split c.args.lines (machine_of c.args.machine.now) c.args.what c.answer-value.result c.requires.asks c.in-ValueLeft.ensures.came.1
