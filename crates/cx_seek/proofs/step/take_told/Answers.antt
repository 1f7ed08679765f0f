use Rattle.cx_hart.specs.Whole.{machine_of}
use Rattle.cx_seek.proofs.Taking.{taken_told}
use Rattle.cx_seek.proofs.step.take_told.Goals as goal

pub returns-clause-step : goal.returns-clause-step
returns-clause-step g c =
    taken_told c.is_stepped.result c.step_into-went.result c.step_into-went.new.rec c.args.machine.now.split
    c.prepare.new.machine.split c.args.handed.now c.rest.result (machine_of c.args.machine.now)
    (machine_of c.prepare.new.machine) (machine_of c.step_into-went.new.self) c.is_stepped.ensures
    c.if-not-prepare.ensures.split c.rest.ensures c.if-not-prepare.ensures.machine c.step_into-went.ensures.answer
    c.step_into-went.ensures.machine
