-- A copy of the current table is put in the place of an empty one.
use Rattle.std.proofs.Common.{◌≡◌, ℕ, ◌+◌, ◌<◌, ◌≤◌, List, [], Option, Some, ◌∙◌, length, get_or, set, map, sym, ap}
use Rattle.std.proofs.Common.{subst, arith}
use Rattle.std.proofs.lemmas.List.{length-map}
use Rattle.cx_pages.specs.Counts.{count_of}
use Rattle.cx_pages.specs.Memories.{Memory, Memories, saved_at}
use Rattle.cx_pages.specs.Tables.{names, memories_of, saved_of}
use Rattle.cx_pages.proofs.Owning.{all_shared}
use Rattle.cx_pages.proofs.Mapping.{saved_at-table, saved_of-some}
use Rattle.cx_pages.proofs.Saving.{room_for_table, saved_pool, saved_at-set, saved_at-set_other, empty_table}
use Rattle.cx_pages.proofs.pool.Pool.save.Goals as goal

pub add_all-requires-clause-some : goal.add_all-requires-clause-some
add_all-requires-clause-some c = λ f named.
    let e : names f c.frames.result.now ≡ names f c.self-2.inside.current = ap (names f) c.frames.ensures in
    omega (arith, c.self-2.invariant.counted f)

pub add_all-requires-clause-room : goal.add_all-requires-clause-room
add_all-requires-clause-room c = λ f.
    rw c.frames.ensures (room_for_table _ _ _ _ c.self-2.inside.current f c.self-2.invariant
    (omega (arith, c.self-2.invariant.size.most)))

-- the copy is one of the current table
table_is : (c : goal.After-add_all) → c.in_ok-table.table ≡ c.self-2.inside.current
table_is c =
    let stamps : Memories → List ℕ = λ m. m.current.stamps in
    c.in_ok-table.ensures ∙ ap stamps c.self.view_is ∙ sym (ap stamps c.in_ok-number.ensures.same)
    ∙ sym (ap stamps c.self-2.view_is)

there : (c : goal.After-add_all) → c.in_ok-number.number < length c.self-2.inside.tables.items
there c =
    let within : c.in_ok-number.number < length (map (saved_of c.self-2.inside.frames) c.self-2.inside.tables.items)
    = subst (λ (m : Memories). c.in_ok-number.number < length m.saved) (sym c.self-2.view_is)
    c.in_ok-number.ensures.there in
    subst (λ (n : ℕ). c.in_ok-number.number < n) (length-map c.self-2.inside.tables.items
    (saved_of c.self-2.inside.frames)) within

-- nothing is saved under its number
empty : (c : goal.After-add_all) → get_or c.self-2.inside.tables.items c.in_ok-number.number [] ≡ []
empty c = empty_table c.self-2.inside.frames _
    (sym (saved_at-table c.self-2.inside.frames c.self-2.inside.tables.items c.in_ok-number.number)
    ∙ ap (λ (m : Memories). saved_at m c.in_ok-number.number) c.self-2.view_is ∙ c.in_ok-number.ensures.free)

pub invariant_of-self : goal.invariant_of-self
invariant_of-self c =
    let counts : (f : ℕ) → count_of c.add_all.new.self.counts f ≡ count_of c.self-2.inside.counts.counts f + names f
    c.self-2.inside.current = λ f.
    let e : names f c.frames.result.now ≡ names f c.self-2.inside.current = ap (names f) c.frames.ensures in
    omega (arith, c.add_all.ensures.counts f) in
    rw (table_is c) (saved_pool _ _ _ _ _ c.in_ok-number.number c.self-2.invariant (there c) (empty c) counts
    c.add_all.ensures.length c.add_all.ensures.spare)

pub returns-clause-saved : goal.returns-clause-saved
returns-clause-saved c =
    let some : Memory → Option Memory = λ m. Some m in
    let now : Memories → Memory = λ m. m.current in
    let long : 1 ≤ length c.self-2.inside.current = omega (arith, c.self-2.invariant.size.some) in
    saved_at-set c.self-2.inside.frames c.self-2.inside.tables.items c.in_ok-number.number c.in_ok-table.table (there c)
    ∙ ap (saved_of c.self-2.inside.frames) (table_is c) ∙ saved_of-some c.self-2.inside.frames c.self-2.inside.current
    long
    ∙ ap some (ap now c.self-2.view_is ∙ ap now c.in_ok-number.ensures.same)

pub returns-clause-others : goal.returns-clause-others
returns-clause-others c = λ other apart.
    saved_at-set_other c.self-2.inside.frames c.self-2.inside.tables.items c.in_ok-number.number c.in_ok-table.table
    other apart
    ∙ ap (λ (m : Memories). saved_at m other) c.self-2.view_is ∙ c.in_ok-number.ensures.others other

pub returns-clause-shared : goal.returns-clause-shared
returns-clause-shared c =
    let long : 1 ≤ length c.self-2.inside.current = omega (arith, c.self-2.invariant.size.some) in
    all_shared (memories_of c.self-2.inside.frames c.add_all.new.self c.self-2.inside.current
    (set c.self-2.inside.tables.items c.in_ok-number.number c.in_ok-table.table)) c.in_ok-number.number
    (saved_at-set c.self-2.inside.frames c.self-2.inside.tables.items c.in_ok-number.number c.in_ok-table.table
    (there c)
    ∙ ap (saved_of c.self-2.inside.frames) (table_is c) ∙ saved_of-some c.self-2.inside.frames c.self-2.inside.current
    long)
