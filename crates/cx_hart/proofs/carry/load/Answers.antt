use Rattle.std.proofs.Common.{◌≡◌, ◌%◌, ◌∙◌, ℕ, None, Ok, sym, ap, subst}
use Rattle.cx_walk.specs.declared.kind.Kind.TheVariants.{Load}
use Rattle.cx_hart.specs.Outcomes.{here_of}
use Rattle.cx_hart.specs.Surroundings.{Surroundings}
use Rattle.cx_hart.proofs.Arms.{load_ends, load_traps, load_waits}
use Rattle.cx_hart.proofs.Found.{translated_ram}
use Rattle.cx_hart.proofs.Stops.{translated_cause}
use Rattle.cx_hart.proofs.carry.load.Goals as goal

pub part_value-value-requires : goal.part_value-value-requires
part_value-value-requires g c =
    let here : Surroundings = here_of c.args.split None c.args.ram.now.memory c.args.state.now in
    translated_ram here Load c.plain_address-va.result c.args.len c.in-Ok-Ram.pa c.requires.length
    (subst (λ (n : ℕ). n % c.args.len ≡ 0) (sym c.plain_address-va.ensures) c.requires.aligned)
    (sym (ap Ok c.in-Ok-Ram.field-0-is) ∙ c.in-Ok-Ram.ensures.place)

pub stopped-requires : goal.stopped-requires
stopped-requires g c =
    let here : Surroundings = here_of c.args.split None c.args.ram.now.memory c.args.state.now in
    translated_cause here Load c.plain_address-va.result c.args.len c.in-Err.stop c.plain_address-va.type_inv
    c.in-Err.ensures.place

pub returns-in-Ok-Ram : goal.returns-in-Ok-Ram
returns-in-Ok-Ram g c =
    load_ends (g.R.Tells.knows c.args.rec.now) (g.R.Tells.knows c.translated.new.rec) (g.R.Tells.knows c.first.new.self)
    c.args.split c.args.ram.now.memory c.args.state.now c.args.word c.args.ins.now c.args.len c.requires.aligned
    c.plain_address-va.result c.plain_address-va.ensures c.in-Ok-Ram.pa c.part_value-value.result c.loaded_value.result
    c.touch.result c.pass_to.new.state c.requires.loads
    (sym (ap Ok c.in-Ok-Ram.field-0-is) ∙ c.in-Ok-Ram.ensures.place) c.translated.ensures.told
    c.part_value-value.ensures.value c.touch.ensures c.first.ensures.told c.loaded_value.ensures c.pass_to.ensures

pub returns-in-Ok-Device : goal.returns-in-Ok-Device
returns-in-Ok-Device g c =
    load_waits (g.R.Tells.knows c.args.rec.now) (g.R.Tells.knows c.translated.new.rec)
    (g.R.Tells.knows c.translated.new.rec) c.args.split c.args.ram.now.memory c.args.state.now c.args.word
    c.args.ins.now c.args.len c.requires.aligned c.plain_address-va.result c.plain_address-va.ensures
    c.in-Ok-Device.pa c.requires.loads
    (sym (ap Ok c.in-Ok-Device.field-0-is) ∙ c.in-Ok-Device.ensures.place)

pub returns-in-Err : goal.returns-in-Err
returns-in-Err g c =
    load_traps (g.R.Tells.knows c.args.rec.now) (g.R.Tells.knows c.translated.new.rec)
    (g.R.Tells.knows c.stopped.new.rec) c.args.split c.args.ram.now.memory c.args.state.now c.args.word c.args.ins.now
    c.args.len c.requires.aligned c.plain_address-va.result c.plain_address-va.ensures c.in-Err.stop c.stopped.result
    c.stopped.new.state c.requires.loads c.in-Err.ensures.place c.translated.ensures.told c.stopped.ensures
