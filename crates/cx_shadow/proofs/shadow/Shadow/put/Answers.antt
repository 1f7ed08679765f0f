use Rattle.std.proofs.Common.{◌/◌, arith, refl, sym}
use Rattle.cx_shadow.proofs.Tables.{held_slot, page_held, place_within, put_is_there, put_leaves_others}
use Rattle.cx_shadow.proofs.Tables.{put_leaves_room, puts_byte, region_within}
use Rattle.cx_shadow.proofs.shadow.Shadow.put.Goals as goal

pub index_mut-region-requires : goal.index_mut-region-requires
index_mut-region-requires c =
    let within = region_within c.args.self.now.regions.items (c.args.va / 4096)
    (page_held c.args.self.now c.args.va c.requires) in
    omega (arith, within, c.args.self.now.regions.ok)

pub index_mut-requires : goal.index_mut-requires
index_mut-requires c =
    let place = place_within c.args.self.now.regions.items (c.args.va / 4096) c.index_mut-region.result.now
    c.index_mut-region.ensures.value (page_held c.args.self.now c.args.va c.requires) in
    omega (arith, place, c.index_mut-region.result.now.ok)

pub returns-in-Some-clause-here : goal.returns-in-Some-clause-here
returns-in-Some-clause-here c = put_is_there c.args.self.now _ c.args.va c.args.byte
    (puts_byte c.args.self.now _ c.args.va c.args.byte c.index_mut-region.result.now _ c.in-Some.page _ c.requires
    c.index_mut-region.ensures.value (rw c.in-Some.is at c.index_mut.ensures.value) refl refl c.put.ensures.here
    (λ i apart. rw (sym c.deref_mut.ensures.value) (c.put.ensures.others i apart)))

pub returns-in-Some-clause-others : goal.returns-in-Some-clause-others
returns-in-Some-clause-others c = put_leaves_others c.args.self.now _ c.args.va c.args.byte
    (puts_byte c.args.self.now _ c.args.va c.args.byte c.index_mut-region.result.now _ c.in-Some.page _ c.requires
    c.index_mut-region.ensures.value (rw c.in-Some.is at c.index_mut.ensures.value) refl refl c.put.ensures.here
    (λ i apart. rw (sym c.deref_mut.ensures.value) (c.put.ensures.others i apart)))

pub returns-in-Some-clause-holds : goal.returns-in-Some-clause-holds
returns-in-Some-clause-holds c = put_leaves_room c.args.self.now _ c.args.va c.args.byte
    (puts_byte c.args.self.now _ c.args.va c.args.byte c.index_mut-region.result.now _ c.in-Some.page _ c.requires
    c.index_mut-region.ensures.value (rw c.in-Some.is at c.index_mut.ensures.value) refl refl c.put.ensures.here
    (λ i apart. rw (sym c.deref_mut.ensures.value) (c.put.ensures.others i apart)))

pub returns-in_default-clause-here : goal.returns-in_default-clause-here
returns-in_default-clause-here c = absurd (held_slot c.args.self.now c.args.va c.index_mut-region.result.now
    c.index_mut.result.now c.requires c.index_mut-region.ensures.value c.index_mut.ensures.value c.in_default.not-Some)

pub returns-in_default-clause-others : goal.returns-in_default-clause-others
returns-in_default-clause-others c = absurd (held_slot c.args.self.now c.args.va c.index_mut-region.result.now
    c.index_mut.result.now c.requires c.index_mut-region.ensures.value c.index_mut.ensures.value c.in_default.not-Some)

pub returns-in_default-clause-holds : goal.returns-in_default-clause-holds
returns-in_default-clause-holds c = absurd (held_slot c.args.self.now c.args.va c.index_mut-region.result.now
    c.index_mut.result.now c.requires c.index_mut-region.ensures.value c.index_mut.ensures.value c.in_default.not-Some)
