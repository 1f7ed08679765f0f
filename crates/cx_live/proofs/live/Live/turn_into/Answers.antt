use Rattle.std.proofs.Common.{◌≡◌, ap, drop, ◌∙◌, take}
use Rattle.cx_hart.specs.Whole.{Whole, machine_of}
use Rattle.cx_live.specs.Live.{Live}
use Rattle.cx_live.specs.Seen.{transfers_of}
use Rattle.cx_live.proofs.Sizes.{pages_are}
use Rattle.cx_live.proofs.Turning.{turn_closes}
use Rattle.cx_live.proofs.live.Live.turn_into.Goals as goal

pub returns-clause-turn : goal.returns-clause-turn
returns-clause-turn c =
    let same = c.in_ok-reserve.ensures.same in
    let moved = c.complete_where-moved in
    let taken = c.take_step-value in
    let l : Live = record {
      machine = machine_of c.self.inside.machine;
      devices = c.self.inside.devices;
      block = c.self.inside.block;
      console = drop c.self.inside.arrived c.self.inside.console.items;
    } in
    let memory = ap (λ (m : Whole). m.memory) same in
    let machine : machine_of c.reserve.new.self ≡ machine_of c.self.inside.machine = ap machine_of same in
    let split = moved.ensures.split ∙ ap (λ (m : Whole). m.split) same in
    rw (← c.self.view_is)
    (turn_closes c.self.inside.machine.split c.args.out l c.pass.new.self c.arrive-self-inside.new.devices
    taken.new.devices c.store_word.new.devices moved.new.block c.store_word.new.block
    (drop c.arrive-self-inside.result c.self.inside.console.items) (machine_of moved.new.machine)
    (machine_of taken.new.machine) (transfers_of moved.result.dma (take moved.result.len moved.new.buffer.items))
    c.lines_due-lines.result taken.result taken.new.rec c.pages-pages.result
    c.pass.ensures
    (rw c.deref.ensures.value at c.arrive-self-inside.ensures.arrive)
    (rw memory at moved.ensures.block)
    (rw machine at moved.ensures.machine)
    moved.ensures.moved
    (rw (c.state.ensures.state, c.state-2.ensures) at c.lines_due-lines.ensures.due)
    (rw split at taken.ensures.step)
    c.store_word.ensures.devices
    (pages_are _ _ (rw c.ram.ensures.memory at c.pages-pages.ensures.whole))
    c.store_word.ensures.block)
