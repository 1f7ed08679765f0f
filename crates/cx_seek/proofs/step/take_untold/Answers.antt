use Rattle.cx_hart.specs.Whole.{machine_of}
use Rattle.cx_seek.proofs.Taking.{taken_untold}
use Rattle.cx_seek.proofs.step.take_untold.Goals as goal

pub returns-clause-step : goal.returns-clause-step
returns-clause-step g c =
    taken_untold c.is_stepped.result c.step_untold-went.result c.args.machine.now.split
    c.prepare.new.machine.split c.args.handed.now c.rest.result (machine_of c.args.machine.now)
    (machine_of c.prepare.new.machine) (machine_of c.step_untold-went.new.self) c.is_stepped.ensures
    c.if-not-prepare.ensures.split c.rest.ensures c.if-not-prepare.ensures.machine c.step_untold-went.ensures.answer
    c.step_untold-went.ensures.machine
