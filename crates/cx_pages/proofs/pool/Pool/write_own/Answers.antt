-- The page's frame is written to, which no other place names.
use Rattle.std.proofs.Common.{◌≡◌, ◌≢◌, ℕ, ◌+◌, ◌<◌, List, ◌∙◌, length, get_or, set, map, sym, ap, subst}
use Rattle.std.specs.List.{splice}
use Rattle.cx_pages.specs.Frames.{frame_of}
use Rattle.cx_pages.specs.Memories.{Memories, IsShared, page_of}
use Rattle.cx_pages.specs.Tables.{saved_of}
use Rattle.cx_pages.proofs.Sharing.{page_inside, entry_counted, counted_inside, page_of-table}
use Rattle.cx_pages.proofs.Owning.{IsOwn, own_count, own_names, written_pool, written_pages, written_saved}
use Rattle.cx_pages.proofs.pool.Pool.write_own.Goals as goal

pub write-requires-clause-frame : goal.write-requires-clause-frame
write-requires-clause-frame c =
    let here = page_inside _ _ _ _ _ c.args.page c.self.view_is c.requires.page in
    rw c.frames.ensures (counted_inside _ _ _ _ _ c.self.invariant (entry_counted _ _ _ _ c.args.page c.self.invariant
    here))

-- the page's place in the table
within : (c : goal.After-write) → c.args.page < length c.self.inside.current
within c = page_inside _ _ _ _ _ c.args.page c.self.view_is c.requires.page

-- what is known of the page's frame
own : (c : goal.After-write) → IsOwn c.self.inside.current c.self.inside.tables.items c.args.page
own c = own_names _ _ _ _ c.args.page c.self.invariant (within c)
    (own_count _ _ _ _ c.args.page c.self.invariant (within c)
    (λ shared. c.requires.own (subst (λ (m : Memories). IsShared m c.args.page) c.self.view_is shared)))

frame_is : (c : goal.After-write) → get_or c.frames.result.now c.args.page 0 ≡ get_or c.self.inside.current c.args.page
    0
frame_is c = ap (λ (table : List ℕ). get_or table c.args.page 0) c.frames.ensures

others : (c : goal.After-write) → (g : ℕ) → g ≢ get_or c.self.inside.current c.args.page 0
    → frame_of c.write.new.self g ≡ frame_of c.self.inside.frames g
others c g other = c.write.ensures.others g (λ e. other (e ∙ frame_is c))

pub invariant_of-self : goal.invariant_of-self
invariant_of-self c = written_pool _ _ _ _ _ c.args.page c.self.invariant (own c) c.write.ensures.count (others c)

pub returns-clause-pages : goal.returns-clause-pages
returns-clause-pages c =
    subst (λ (m : Memories). map (frame_of c.write.new.self) c.self.inside.current
    ≡ set m.current.pages c.args.page (splice (page_of m.current c.args.page) c.args.offset
    (c.args.offset + length c.args.bytes.now) c.args.bytes.now)) c.self.view_is
    (written_pages _ _ _ _ c.args.page (within c) (own c) (others c)
    ∙ ap (set (map (frame_of c.self.inside.frames) c.self.inside.current) c.args.page)
    (ap (frame_of c.write.new.self) (sym (frame_is c)) ∙ c.write.ensures.here
    ∙ ap (λ (bytes : List ℕ). splice bytes c.args.offset (c.args.offset + length c.args.bytes.now) c.args.bytes.now)
    (ap (frame_of c.self.inside.frames) (frame_is c)
    ∙ sym (page_of-table c.self.inside.frames c.self.inside.current c.args.page (within c)))))

pub returns-clause-saved : goal.returns-clause-saved
returns-clause-saved c =
    subst (λ (m : Memories). map (saved_of c.write.new.self) c.self.inside.tables.items ≡ m.saved) c.self.view_is
    (written_saved _ _ _ _ c.args.page (own c) (others c))
