use Rattle.std.proofs.Common.{◌≡◌, ap, refl, ◌∙◌}
use Rattle.cx_hart.specs.Whole.{Whole, machine_of}
use Rattle.cx_machine.specs.Transfers.{after_transfers}
use Rattle.cx_replay.proofs.Steps.{step_behind}
use Rattle.cx_replay.proofs.step.take_step.Goals as goal

pub returns-clause-step : goal.returns-clause-step
returns-clause-step g c =
    let same = c.in_ok-reserve.ensures.same in
    let behind : machine_of c.reserve.new.self ≡ after_transfers c.args.due.now.transfers
    (machine_of c.args.machine.now) = ap machine_of same
    ∙ c.in_ok-move_all.ensures.machine ∙ rw c.moves.ensures refl in
    let split : c.reserve.new.self.split ≡ c.args.machine.now.split = ap (λ (w : Whole). w.split) same
    ∙ c.in_ok-move_all.ensures.split in
    rw (step_behind c.args.machine.now.split c.args.due.now (machine_of c.args.machine.now)
    (machine_of c.reserve.new.self) behind)
    (rw (split, c.lines.ensures, c.value.ensures) at c.turn_counted.ensures.step)
