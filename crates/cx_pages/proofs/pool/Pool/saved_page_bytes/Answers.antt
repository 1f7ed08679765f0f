-- The bytes are those of the saved page's frame.
use Rattle.std.proofs.Common.{◌≡◌, ℕ, ◌<◌, List, [], ◌∙◌, length, get_or, sym, ap, subst}
use Rattle.std.proofs.lemmas.List.{get_or_read}
use Rattle.cx_pages.specs.Frames.{frame_of}
use Rattle.cx_pages.specs.Memories.{IsLive}
use Rattle.cx_pages.proofs.Sharing.{page_inside, live_table, saved_entry_counted, counted_inside, page_of-table}
use Rattle.cx_pages.proofs.pool.Pool.saved_page_bytes.Goals as goal

pub frame-requires : goal.frame-requires
frame-requires c =
    let n : ℕ = c.snap.inside.number in
    let here = page_inside _ _ _ _ _ c.args.page c.self.view_is c.requires.page in
    let t = live_table _ _ _ _ _ n c.self.invariant c.self.view_is (subst (IsLive c.args.self.now) (sym c.snap.view_is)
    c.requires.live) in
    let table : c.frames.result.now ≡ get_or c.self.inside.tables.items n [] = c.frames.ensures
    ∙ get_or_read c.self.inside.tables.items n c.index-table.result.now t.there c.index-table.ensures [] in
    let within : c.args.page < length (get_or c.self.inside.tables.items n []) = rw t.size here in
    rw table (counted_inside _ _ _ _ _ c.self.invariant (saved_entry_counted _ _ _ _ n c.args.page c.self.invariant
    t.there within))

pub returns : goal.returns
returns c =
    let n : ℕ = c.snap.inside.number in
    let here = page_inside _ _ _ _ _ c.args.page c.self.view_is c.requires.page in
    let t = live_table _ _ _ _ _ n c.self.invariant c.self.view_is (subst (IsLive c.args.self.now) (sym c.snap.view_is)
    c.requires.live) in
    let table : c.frames.result.now ≡ get_or c.self.inside.tables.items n [] = c.frames.ensures
    ∙ get_or_read c.self.inside.tables.items n c.index-table.result.now t.there c.index-table.ensures [] in
    let within : c.args.page < length (get_or c.self.inside.tables.items n []) = rw t.size here in
    rw (← c.snap.view_is, t.is)
    (c.frame.ensures.bytes ∙ ap (λ (xs : List ℕ). frame_of c.self.inside.frames (get_or xs c.args.page 0)) table
    ∙ sym (page_of-table c.self.inside.frames (get_or c.self.inside.tables.items n []) c.args.page within))
