use Rattle.std.proofs.Common.{◌/◌, Some, arith, sym, refl, ◌∙◌}
use Rattle.cx_shadow.proofs.Tables.{alike, came_bytes, has_room, keeps_room, none_held, placed_here, placed_others}
use Rattle.cx_shadow.proofs.Tables.{on_refusal, other_room, refilled, same_bytes, same_room}
use Rattle.cx_shadow.proofs.shadow.Shadow.hold.Goals as goal

pub returns-then-holds-clause-held : goal.returns-then-holds-clause-held
returns-then-holds-clause-held c = λ a here. alike c.args.self.now c.args.va a here ∙ sym c.if-holds.ensures

pub returns-in_err-reach-clause-bytes : goal.returns-in_err-reach-clause-bytes
returns-in_err-reach-clause-bytes c = same_bytes c.args.self.now _ c.in_err-reach.ensures.same

pub returns-in_err-reach-clause-keeps : goal.returns-in_err-reach-clause-keeps
returns-in_err-reach-clause-keeps c = λ a held. same_room c.args.self.now _ c.in_err-reach.ensures.same a ∙ held

pub returns-in_err-fill-clause-bytes : goal.returns-in_err-fill-clause-bytes
returns-in_err-fill-clause-bytes c = same_bytes c.args.self.now _
    (λ n. refilled c.reach.new.regions.items _ c.index_mut-region.result.now c.fill.new.region (omega (
      arith,
      c.in_ok-reach.ensures.count,
    )) c.index_mut-region.ensures.value c.in_err-fill.ensures.same n
    ∙ c.in_ok-reach.ensures.same n)

pub returns-in_err-fill-clause-keeps : goal.returns-in_err-fill-clause-keeps
returns-in_err-fill-clause-keeps c = λ a held. same_room c.args.self.now _
    (λ n. refilled c.reach.new.regions.items _ c.index_mut-region.result.now c.fill.new.region (omega (
      arith,
      c.in_ok-reach.ensures.count,
    )) c.index_mut-region.ensures.value c.in_err-fill.ensures.same n
    ∙ c.in_ok-reach.ensures.same n) a ∙ held

pub returns-in_err-blank-clause-bytes : goal.returns-in_err-blank-clause-bytes
returns-in_err-blank-clause-bytes c = same_bytes c.args.self.now _
    (λ n. refilled c.reach.new.regions.items _ c.index_mut-region.result.now c.fill.new.region (omega (
      arith,
      c.in_ok-reach.ensures.count,
    )) c.index_mut-region.ensures.value c.in_ok-fill.ensures.same n
    ∙ c.in_ok-reach.ensures.same n)

pub returns-in_err-blank-clause-keeps : goal.returns-in_err-blank-clause-keeps
returns-in_err-blank-clause-keeps c = λ a held. same_room c.args.self.now _
    (λ n. refilled c.reach.new.regions.items _ c.index_mut-region.result.now c.fill.new.region (omega (
      arith,
      c.in_ok-reach.ensures.count,
    )) c.index_mut-region.ensures.value c.in_ok-fill.ensures.same n
    ∙ c.in_ok-reach.ensures.same n) a ∙ held

pub returns-clause-held : goal.returns-clause-held
returns-clause-held c = λ a here.
    has_room _ (c.args.va / 4096) c.in_ok-blank.field-0.value
    (placed_here c.reach.new.regions.items (c.args.va / 4096) c.fill.new.region _ (Some c.in_ok-blank.field-0)
    (omega (arith, c.in_ok-reach.ensures.count)) (omega (arith, c.in_ok-fill.ensures.count)) refl) a here

pub returns-clause-bytes : goal.returns-clause-bytes
returns-clause-bytes c =
    came_bytes c.args.self.now _ (c.args.va / 4096) c.in_ok-blank.field-0.value
    (λ n apart. placed_others c.reach.new.regions.items (c.args.va / 4096) c.index_mut-region.result.now
    c.fill.new.region _ (Some c.in_ok-blank.field-0) (omega (arith, c.in_ok-reach.ensures.count))
    c.index_mut-region.ensures.value c.in_ok-fill.ensures.same refl n apart ∙ c.in_ok-reach.ensures.same n)
    (none_held c.args.self.now c.args.va (sym c.if-holds.ensures))
    (placed_here c.reach.new.regions.items (c.args.va / 4096) c.fill.new.region _ (Some c.in_ok-blank.field-0)
    (omega (arith, c.in_ok-reach.ensures.count)) (omega (arith, c.in_ok-fill.ensures.count)) refl)
    c.in_ok-blank.ensures

pub returns-clause-keeps : goal.returns-clause-keeps
returns-clause-keeps c =
    keeps_room c.args.self.now _ (c.args.va / 4096) c.in_ok-blank.field-0.value
    (λ n apart. placed_others c.reach.new.regions.items (c.args.va / 4096) c.index_mut-region.result.now
    c.fill.new.region _ (Some c.in_ok-blank.field-0) (omega (arith, c.in_ok-reach.ensures.count))
    c.index_mut-region.ensures.value c.in_ok-fill.ensures.same refl n apart ∙ c.in_ok-reach.ensures.same n)
    (placed_here c.reach.new.regions.items (c.args.va / 4096) c.fill.new.region _ (Some c.in_ok-blank.field-0)
    (omega (arith, c.in_ok-reach.ensures.count)) (omega (arith, c.in_ok-fill.ensures.count)) refl)

pub returns-in_err-reach-clause-others : goal.returns-in_err-reach-clause-others
returns-in_err-reach-clause-others c = λ a apart. same_room c.args.self.now _ c.in_err-reach.ensures.same a

pub returns-in_err-fill-clause-others : goal.returns-in_err-fill-clause-others
returns-in_err-fill-clause-others c = λ a apart. same_room c.args.self.now _
    (λ n. refilled c.reach.new.regions.items _ c.index_mut-region.result.now c.fill.new.region (omega (
      arith,
      c.in_ok-reach.ensures.count,
    )) c.index_mut-region.ensures.value c.in_err-fill.ensures.same n
    ∙ c.in_ok-reach.ensures.same n) a

pub returns-in_err-blank-clause-others : goal.returns-in_err-blank-clause-others
returns-in_err-blank-clause-others c = λ a apart. same_room c.args.self.now _
    (λ n. refilled c.reach.new.regions.items _ c.index_mut-region.result.now c.fill.new.region (omega (
      arith,
      c.in_ok-reach.ensures.count,
    )) c.index_mut-region.ensures.value c.in_ok-fill.ensures.same n
    ∙ c.in_ok-reach.ensures.same n) a

pub returns-clause-others : goal.returns-clause-others
returns-clause-others c = other_room c.args.self.now _ c.args.va
    (λ n apart. placed_others c.reach.new.regions.items (c.args.va / 4096) c.index_mut-region.result.now
    c.fill.new.region _ (Some c.in_ok-blank.field-0) (omega (arith, c.in_ok-reach.ensures.count))
    c.index_mut-region.ensures.value c.in_ok-fill.ensures.same refl n apart ∙ c.in_ok-reach.ensures.same n)

pub returns-in_err-reach-clause-refused : goal.returns-in_err-reach-clause-refused
returns-in_err-reach-clause-refused c = on_refusal _ (same_room c.args.self.now _ c.in_err-reach.ensures.same)

pub returns-in_err-fill-clause-refused : goal.returns-in_err-fill-clause-refused
returns-in_err-fill-clause-refused c = on_refusal _ (same_room c.args.self.now _
    (λ n. refilled c.reach.new.regions.items _ c.index_mut-region.result.now c.fill.new.region (omega (
      arith,
      c.in_ok-reach.ensures.count,
    )) c.index_mut-region.ensures.value c.in_err-fill.ensures.same n
    ∙ c.in_ok-reach.ensures.same n))

pub returns-in_err-blank-clause-refused : goal.returns-in_err-blank-clause-refused
returns-in_err-blank-clause-refused c = on_refusal _ (same_room c.args.self.now _
    (λ n. refilled c.reach.new.regions.items _ c.index_mut-region.result.now c.fill.new.region (omega (
      arith,
      c.in_ok-reach.ensures.count,
    )) c.index_mut-region.ensures.value c.in_ok-fill.ensures.same n
    ∙ c.in_ok-reach.ensures.same n))
