-- The count of the page's frame tells.
use Rattle.std.proofs.Common.{◌≡◌, ◌≢◌, ℕ, List, ◌∙◌, get_or, refl, sym, ap, subst, arith}
use Rattle.std.proofs.lemmas.Bool.{not-true, ne_eqb, eqb-false}
use Rattle.cx_pages.specs.Counts.{count_of}
use Rattle.cx_pages.specs.Memories.{Memories, IsShared}
use Rattle.cx_pages.proofs.Tallies.{count_inside}
use Rattle.cx_pages.proofs.Sharing.{page_inside, entry_counted, shared_from_count, count_from_shared}
use Rattle.cx_pages.proofs.pool.Pool.shared.Goals as goal

pub count-requires : goal.count-requires
count-requires c =
    let here = page_inside _ _ _ _ _ c.args.page c.self.view_is c.requires in
    rw c.frames.ensures (count_inside _ _ (entry_counted _ _ _ _ c.args.page c.self.invariant here))

pub returns : goal.returns
returns c =
    let here = page_inside _ _ _ _ _ c.args.page c.self.view_is c.requires in
    let count : c.count.result ≡ count_of c.self.inside.counts.counts (get_or c.self.inside.current c.args.page 0)
    = c.count.ensures ∙ ap (λ (table : List ℕ). count_of c.self.inside.counts.counts (get_or table c.args.page 0))
    c.frames.ensures in (
      λ t. let other : c.count.result ≢ 1 = eqb-false c.count.result 1 (not-true _ t) in
          subst (λ (m : Memories). IsShared m c.args.page) c.self.view_is (shared_from_count _ _ _ _ c.args.page
          c.self.invariant here (λ e. other (count ∙ e))),
      λ shared. let more = count_from_shared _ _ _ _ c.args.page c.self.invariant here
          (subst (λ (m : Memories). IsShared m c.args.page) (sym c.self.view_is) shared) in
          let other : c.count.result ≢ 1 = λ e. omega arith in rw (ne_eqb c.count.result 1 other) refl,
    )
