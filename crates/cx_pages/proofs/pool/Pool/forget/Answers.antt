-- The saved table gives back its names, and is empty then.
use Rattle.std.proofs.Common.{◌≡◌, ℕ, ◌+◌, [], Some, None, inl, inr, ◌∙◌, get_or, set, map, sym, ap, subst, arith}
use Rattle.std.proofs.lemmas.List.{get_or_read}
use Rattle.cx_pages.specs.Counts.{count_of}
use Rattle.cx_pages.specs.Memories.{Memory, Memories, IsLive, GivesBack, saved_at}
use Rattle.cx_pages.specs.Tables.{names, memories_of, saved_of}
use Rattle.cx_pages.proofs.Naming.{names-le-all}
use Rattle.cx_pages.proofs.Sharing.{HasTable, live_table}
use Rattle.cx_pages.proofs.Saving.{forgotten_pool, gives_back, saved_at-set, saved_at-set_other}
use Rattle.cx_pages.proofs.Owning.{own_stays}
use Rattle.std.proofs.lemmas.Bool.{cases_eq}
use Rattle.cx_pages.proofs.pool.Pool.forget.Goals as goal

-- the saved table
has : (c : goal.After-frames) → HasTable c.self.inside.frames c.self.inside.current c.self.inside.tables.items
    c.args.self.now c.snap.inside.number
has c = live_table _ _ _ _ _ c.snap.inside.number c.self.invariant c.self.view_is
    (subst (IsLive c.args.self.now) (sym c.snap.view_is) c.requires)

table_is : (c : goal.After-frames) → c.frames.result.now ≡ get_or c.self.inside.tables.items c.snap.inside.number []
table_is c = c.frames.ensures ∙ get_or_read c.self.inside.tables.items c.snap.inside.number c.index_mut-table.result.now
    (has c).there c.index_mut-table.ensures.value []

pub release_all-requires : goal.release_all-requires
release_all-requires c = λ f.
    let le = names-le-all f c.self.inside.tables.items c.snap.inside.number (has c).there in
    let e : names f c.frames.result.now ≡ names f (get_or c.self.inside.tables.items c.snap.inside.number []) =
    ap (names f) (table_is c) in
    omega (arith, c.self.invariant.counted f)

pub invariant_of-self : goal.invariant_of-self
invariant_of-self c =
    let t = live_table _ _ _ _ _ c.snap.inside.number c.self.invariant c.self.view_is
    (subst (IsLive c.args.self.now) (sym c.snap.view_is) c.requires) in
    let is : c.frames.result.now ≡ get_or c.self.inside.tables.items c.snap.inside.number []
    = c.frames.ensures ∙ get_or_read c.self.inside.tables.items c.snap.inside.number c.index_mut-table.result.now
    t.there c.index_mut-table.ensures.value [] in
    let counts : (f : ℕ) → count_of c.release_all.new.self.counts f + names f
    (get_or c.self.inside.tables.items c.snap.inside.number []) ≡ count_of c.self.inside.counts.counts f = λ f.
    let e : names f c.frames.result.now ≡ names f (get_or c.self.inside.tables.items c.snap.inside.number []) =
    ap (names f) is in
    omega (arith, c.release_all.ensures.counts f) in
    rw c.empty.ensures (forgotten_pool _ _ _ _ _ c.snap.inside.number c.self.invariant t.there counts
    c.release_all.ensures.length c.release_all.ensures.left)

pub returns-clause-gone : goal.returns-clause-gone
returns-clause-gone c =
    let t = live_table _ _ _ _ _ c.snap.inside.number c.self.invariant c.self.view_is
    (subst (IsLive c.args.self.now) (sym c.snap.view_is) c.requires) in
    subst (λ (number : ℕ). get_or (map (saved_of c.self.inside.frames)
    (set c.self.inside.tables.items c.snap.inside.number c.empty.result)) number None ≡ None) c.snap.view_is
    (rw c.empty.ensures (saved_at-set c.self.inside.frames c.self.inside.tables.items c.snap.inside.number [] t.there))

pub returns-clause-others : goal.returns-clause-others
returns-clause-others c = λ other apart.
    saved_at-set_other c.self.inside.frames c.self.inside.tables.items c.snap.inside.number c.empty.result other
    (λ e. apart (e ∙ c.snap.view_is))
    ∙ ap (λ (m : Memories). saved_at m other) c.self.view_is

pub returns-clause-counts : goal.returns-clause-counts
returns-clause-counts c =
    subst (λ (m : Memories). GivesBack m.used m.spare (memories_of c.self.inside.frames c.release_all.new.self
    c.self.inside.current (set c.self.inside.tables.items c.snap.inside.number c.empty.result)).used
    c.release_all.new.self.spare) c.self.view_is
    (gives_back _ _ _ _ _ _ _ c.self.invariant (invariant_of-self c) c.release_all.ensures.length
    c.release_all.ensures.spare)

pub returns-clause-own : goal.returns-clause-own
returns-clause-own c = λ page own.
    let now : Memories → Memory = λ m. m.current in
    let new : Memories = memories_of c.self.inside.frames c.release_all.new.self c.self.inside.current
    (set c.self.inside.tables.items c.snap.inside.number c.empty.result) in
    own_stays c.args.self.now new page (ap now c.self.view_is)
    (λ number memory live. elim (cases_eq number c.args.snap) [
      | inl ended ↦
          let none : saved_at new number ≡ None = ap (saved_at new) ended ∙ returns-clause-gone c in
          let some : None ≡ Some memory = sym none ∙ live in
          cc
      | inr other ↦ sym (returns-clause-others c number other) ∙ live
    ]) own
