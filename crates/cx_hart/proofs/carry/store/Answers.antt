use Rattle.std.proofs.Common.{◌≡◌, ◌%◌, ◌∙◌, ℕ, None, Ok, sym, ap, subst, arith}
use Rattle.cx_walk.specs.declared.kind.Kind.TheVariants.{Store}
use Rattle.cx_hart.specs.Outcomes.{here_of}
use Rattle.cx_hart.specs.Surroundings.{Surroundings}
use Rattle.cx_hart.proofs.Arms.{store_ends, store_passes, store_traps}
use Rattle.cx_hart.proofs.Found.{translated_device, translated_ram}
use Rattle.cx_hart.proofs.Stops.{translated_cause}
use Rattle.cx_hart.proofs.carry.store.Goals as goal

pub store-requires : goal.store-requires
store-requires g c =
    let here : Surroundings = here_of c.args.split None c.args.ram.now.memory c.args.state.now in
    let stretch = translated_ram here Store c.plain_address-va.result c.args.len c.in-Ok-Ram.pa c.requires.length
    (subst (λ (n : ℕ). n % c.args.len ≡ 0) (sym c.plain_address-va.ensures) c.requires.aligned)
    (sym (ap Ok c.in-Ok-Ram.field-0-is) ∙ c.in-Ok-Ram.ensures.place) in
    record { ram = stretch.inside; page = stretch.page; length = stretch.length; room = omega arith }

pub stopped-requires : goal.stopped-requires
stopped-requires g c =
    let here : Surroundings = here_of c.args.split None c.args.ram.now.memory c.args.state.now in
    translated_cause here Store c.plain_address-va.result c.args.len c.in-Err.stop c.plain_address-va.type_inv
    c.in-Err.ensures.place

pub returns-in-Ok-Ram-clause-ends : goal.returns-in-Ok-Ram-clause-ends
returns-in-Ok-Ram-clause-ends g c =
    let here : Surroundings = here_of c.args.split None c.args.ram.now.memory c.args.state.now in
    let place = sym (ap Ok c.in-Ok-Ram.field-0-is) ∙ c.in-Ok-Ram.ensures.place in
    let stretch = translated_ram here Store c.plain_address-va.result c.args.len c.in-Ok-Ram.pa c.requires.length
    (subst (λ (n : ℕ). n % c.args.len ≡ 0) (sym c.plain_address-va.ensures) c.requires.aligned) place in
    store_ends (g.R.Tells.knows c.args.rec.now) (g.R.Tells.knows c.translated.new.rec)
    (g.R.Tells.knows c.wrote.new.self)
    c.args.split c.args.ram.now.memory c.args.state.now c.args.word c.args.ins.now c.args.len c.requires.aligned
    c.plain_address-va.result c.plain_address-va.ensures c.in-Ok-Ram.pa c.register-value.result c.touch.result
    c.pass_to.new.state c.store.new.self.memory c.requires.stores place c.translated.ensures.told
    c.register-value.ensures c.touch.ensures c.wrote.ensures c.pass_to.ensures stretch.inside.low
    c.store.ensures.memory

pub returns-in-Ok-Device-clause-ends : goal.returns-in-Ok-Device-clause-ends
returns-in-Ok-Device-clause-ends g c =
    let here : Surroundings = here_of c.args.split None c.args.ram.now.memory c.args.state.now in
    let place = sym (ap Ok c.in-Ok-Device.field-0-is) ∙ c.in-Ok-Device.ensures.place in
    let outside = translated_device here Store c.plain_address-va.result c.args.len c.in-Ok-Device.pa c.requires.length
    (subst (λ (n : ℕ). n % c.args.len ≡ 0) (sym c.plain_address-va.ensures) c.requires.aligned) place in
    store_passes (g.R.Tells.knows c.args.rec.now) (g.R.Tells.knows c.translated.new.rec)
    (g.R.Tells.knows c.wrote-in-Ok-Device.new.self) c.args.split c.args.ram.now.memory c.args.state.now c.args.word
    c.args.ins.now c.args.len c.requires.aligned c.plain_address-va.result c.plain_address-va.ensures
    c.in-Ok-Device.pa c.register-value-in-Ok-Device.result c.touch-in-Ok-Device.result
    c.pass_to-in-Ok-Device.new.state c.requires.stores place c.translated.ensures.told
    c.register-value-in-Ok-Device.ensures c.touch-in-Ok-Device.ensures c.wrote-in-Ok-Device.ensures
    c.pass_to-in-Ok-Device.ensures outside.below

pub returns-in-Err-clause-ends : goal.returns-in-Err-clause-ends
returns-in-Err-clause-ends g c =
    store_traps (g.R.Tells.knows c.args.rec.now) (g.R.Tells.knows c.translated.new.rec)
    (g.R.Tells.knows c.stopped.new.rec) c.args.split c.args.ram.now.memory c.args.state.now c.args.word c.args.ins.now
    c.args.len c.requires.aligned c.plain_address-va.result c.plain_address-va.ensures c.in-Err.stop c.stopped.result
    c.stopped.new.state c.requires.stores c.in-Err.ensures.place c.translated.ensures.told c.stopped.ensures
