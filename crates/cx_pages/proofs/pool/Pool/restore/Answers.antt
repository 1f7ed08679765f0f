-- The saved table becomes the current one.
use Rattle.std.proofs.Common.{◌≡◌, ℕ, ◌+◌, ◌≤◌, List, [], ◌∙◌, get_or, sym, ap, subst, arith}
use Rattle.std.proofs.lemmas.List.{get_or_read}
use Rattle.cx_pages.specs.Counts.{count_of}
use Rattle.cx_pages.specs.Memories.{Memories, IsLive, GivesBack}
use Rattle.cx_pages.specs.Tables.{names, memories_of}
use Rattle.cx_pages.proofs.Naming.{names-le-all}
use Rattle.cx_pages.proofs.Sharing.{HasTable, live_table}
use Rattle.cx_pages.proofs.Saving.{room_for_table, restored_pool, gives_back}
use Rattle.cx_pages.proofs.pool.Pool.restore.Goals as goal

-- the saved table
has : (c : goal.After-frames) → HasTable c.self.inside.frames c.self.inside.current c.self.inside.tables.items
    c.args.self.now c.snap.inside.number
has c = live_table _ _ _ _ _ c.snap.inside.number c.self.invariant c.self.view_is
    (subst (IsLive c.args.self.now) (sym c.snap.view_is) c.requires)

table_is : (c : goal.After-frames) → c.index-table.result.now ≡ get_or c.self.inside.tables.items c.snap.inside.number
    []
table_is c = get_or_read c.self.inside.tables.items c.snap.inside.number c.index-table.result.now (has c).there
    c.index-table.ensures []

pub add_all-requires-clause-some : goal.add_all-requires-clause-some
add_all-requires-clause-some c = λ f named.
    let le = names-le-all f c.self.inside.tables.items c.snap.inside.number (has c).there in
    let e : c.frames.result.now ≡ get_or c.self.inside.tables.items c.snap.inside.number [] = c.frames.ensures
    ∙ table_is c in
    let named' : 1 ≤ names f (get_or c.self.inside.tables.items c.snap.inside.number []) =
    subst (λ (table : List ℕ). 1 ≤ names f table) e named in
    omega (arith, c.self.invariant.counted f)

pub add_all-requires-clause-room : goal.add_all-requires-clause-room
add_all-requires-clause-room c = λ f.
    let e : c.frames.result.now ≡ get_or c.self.inside.tables.items c.snap.inside.number [] = c.frames.ensures
    ∙ table_is c in
    rw e (room_for_table _ _ _ _ (get_or c.self.inside.tables.items c.snap.inside.number []) f c.self.invariant
    (omega (arith, (has c).size, c.self.invariant.size.most)))

pub invariant_of-self : goal.invariant_of-self
invariant_of-self c =
    let t = live_table _ _ _ _ _ c.snap.inside.number c.self.invariant c.self.view_is
    (subst (IsLive c.args.self.now) (sym c.snap.view_is) c.requires) in
    let table : List ℕ = get_or c.self.inside.tables.items c.snap.inside.number [] in
    let is : c.index-table.result.now ≡ table = get_or_read c.self.inside.tables.items c.snap.inside.number
    c.index-table.result.now t.there c.index-table.ensures [] in
    let e : c.frames.result.now ≡ table = c.frames.ensures ∙ is in
    let e' : c.copy_from.new.self ≡ table = c.copy_from.ensures ∙ c.frames-3.ensures ∙ is in
    let counts : (f : ℕ) → count_of c.release_all.new.self.counts f + names f c.self.inside.current
    ≡ count_of c.self.inside.counts.counts f + names f table = λ f.
    let less = c.release_all.ensures.counts f in
    let more = c.add_all.ensures.counts f in
    let one : names f c.frames-2.result.now ≡ names f c.self.inside.current = ap (names f) c.frames-2.ensures in
    let two : names f c.frames.result.now ≡ names f table = ap (names f) e in
    omega (arith, less, more) in
    rw e' (restored_pool _ _ _ _ _ c.snap.inside.number c.self.invariant t.there t.size counts
    (c.release_all.ensures.length ∙ c.add_all.ensures.length) c.release_all.ensures.left)

pub returns-clause-counts : goal.returns-clause-counts
returns-clause-counts c =
    subst (λ (m : Memories). GivesBack m.used m.spare (memories_of c.self.inside.frames c.release_all.new.self
    c.copy_from.new.self c.self.inside.tables.items).used c.release_all.new.self.spare) c.self.view_is
    (gives_back _ _ _ _ _ _ _ c.self.invariant (invariant_of-self c) (c.release_all.ensures.length
    ∙ c.add_all.ensures.length)
    (omega (arith, c.release_all.ensures.spare, c.add_all.ensures.spare)))
