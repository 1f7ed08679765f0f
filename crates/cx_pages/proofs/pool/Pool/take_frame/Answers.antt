-- The page gets the frame that was taken.
use Rattle.std.proofs.Common.{◌≡◌, ◌<◌, ◌≤◌, length, get_or, map, refl, sym, subst, arith}
use Rattle.cx_pages.specs.Counts.{count_of}
use Rattle.cx_pages.specs.Frames.{frame_of}
use Rattle.cx_pages.specs.Memories.{Memories, IsShared, HasOwn}
use Rattle.cx_pages.specs.Tables.{memories_of}
use Rattle.cx_pages.proofs.Sharing.{page_inside, entry_counted, counted_inside, count_from_shared}
use Rattle.cx_pages.proofs.Owning.{Taken, taken_pool, taken_pages, taken_own, taken_kept}
use Rattle.cx_pages.proofs.pool.Pool.take_frame.Goals as goal

pub copy-requires-clause-from : goal.copy-requires-clause-from
copy-requires-clause-from c =
    let here = page_inside _ _ _ _ _ c.args.page c.self.view_is c.requires.page in
    rw c.frames.ensures (counted_inside _ _ _ _ _ c.self.invariant (entry_counted _ _ _ _ c.args.page c.self.invariant
    here))

pub release-requires : goal.release-requires
release-requires c =
    let here = page_inside _ _ _ _ _ c.args.page c.self.view_is c.requires.page in
    let more = count_from_shared _ _ _ _ c.args.page c.self.invariant here
    (subst (λ (m : Memories). IsShared m c.args.page) (sym c.self.view_is) c.requires.shared) in
    let kept = taken_kept c.self.inside.counts.counts (get_or c.self.inside.current c.args.page 0) c.take-frame.result
    more c.take-frame.ensures.unused in
    rw (c.frames.ensures, c.take-frame.ensures.counts, kept) (omega arith)

-- the page's place in the table
within : (c : goal.After-set) → c.args.page < length c.self.inside.current
within c = page_inside _ _ _ _ _ c.args.page c.self.view_is c.requires.page

more_names : (c : goal.After-set) → 2 ≤ count_of c.self.inside.counts.counts (get_or c.self.inside.current c.args.page
    0)
more_names c = count_from_shared _ _ _ _ c.args.page c.self.invariant (within c)
    (subst (λ (m : Memories). IsShared m c.args.page) (sym c.self.view_is) c.requires.shared)

taken : (c : goal.After-set) → Taken c.self.inside.frames c.copy.new.self c.self.inside.counts c.release.new.self
    c.self.inside.current c.args.page c.take-frame.result
taken c =
    let kept = taken_kept c.self.inside.counts.counts (get_or c.self.inside.current c.args.page 0) c.take-frame.result
    (more_names c) c.take-frame.ensures.unused in
    let count : count_of c.take-frame.new.self.counts (get_or c.frames.result.now c.args.page 0)
    ≡ count_of c.self.inside.counts.counts (get_or c.self.inside.current c.args.page 0)
    = rw (c.frames.ensures, c.take-frame.ensures.counts) kept in
    let spare : c.release.new.self.spare ≡ c.take-frame.new.self.spare =
    c.release.ensures.more (λ one. omega (arith, more_names c)) in
    record {
      there = c.take-frame.ensures.there;
      unused = c.take-frame.ensures.unused;
      more = more_names c;
      counts = rw (c.release.ensures.counts, c.take-frame.ensures.counts, c.frames.ensures) refl;
      spare = omega (arith, c.take-frame.ensures.spare);
      size = c.copy.ensures.count;
      copy = rw c.frames.ensures at c.copy.ensures.here;
      others = c.copy.ensures.others;
    }

pub invariant_of-self : goal.invariant_of-self
invariant_of-self c = rw c.set.ensures (taken_pool _ _ _ _ _ _ _ _ c.self.invariant (within c) (taken c))

pub returns-clause-pages : goal.returns-clause-pages
returns-clause-pages c =
    subst (λ (m : Memories). map (frame_of c.copy.new.self) c.set.new.self ≡ m.current.pages) c.self.view_is
    (rw c.set.ensures (taken_pages _ _ _ _ _ _ _ _ c.self.invariant (within c) (taken c)))

pub returns-clause-own : goal.returns-clause-own
returns-clause-own c =
    subst (λ (m : Memories). HasOwn c.args.page m (memories_of c.copy.new.self c.release.new.self c.set.new.self
    c.self.inside.tables.items)) c.self.view_is
    (rw c.set.ensures (taken_own _ _ _ _ _ _ _ _ c.self.invariant (within c) (taken c)))
