-- The pass over a table, one name after the other.
use Rattle.std.proofs.Common.{ℕ, ◌-◌, ◌≤◌, ◌∙◌, inl, inr, get_or, refl, arith, length-set}
use Rattle.std.proofs.lemmas.Bool.{cases_eq}
use Rattle.cx_pages.specs.Counts.{count_of}
use Rattle.cx_pages.proofs.Tallies.{count_inside}
use Rattle.cx_pages.proofs.Naming.{names-nil, counted_less, names_next}
use Rattle.cx_pages.proofs.counts.Counts.release_all.Goals as goal

pub loop-frame-init : goal.loop-frame-init
loop-frame-init c = (λ f. let none = names-nil f in omega arith, refl, omega arith)

pub release-requires : goal.release-requires
release-requires c =
    let g : ℕ = get_or c.args.table.now c.loop-frame.frame-index 0 in
    omega (
      arith,
      c.loop-frame.invariant.0 g,
      c.requires g,
      names_next g c.args.table.now c.loop-frame.frame-index
          c.loop-frame-test.true refl,
    )

pub loop-frame-preserved : goal.loop-frame-preserved
loop-frame-preserved c =
    let g : ℕ = get_or c.args.table.now c.loop-frame.frame-index 0 in
    let some : 1 ≤ count_of c.loop-frame.self.counts g =
    omega (
      arith,
      c.loop-frame.invariant.0 g,
      c.requires g,
      names_next g c.args.table.now c.loop-frame.frame-index
          c.loop-frame-test.true refl,
    ) in (
      rw c.release.ensures.counts (counted_less _ _ _ _ g c.loop-frame-test.true refl (count_inside _ g some) some
          c.loop-frame.invariant.0),
      rw c.release.ensures.counts (length-set c.loop-frame.self.counts g (count_of c.loop-frame.self.counts g - 1)
          ∙ c.loop-frame.invariant.1),
      elim (cases_eq (count_of c.loop-frame.self.counts g) 1) [
        | inl one ↦ omega (arith, c.release.ensures.last one, c.loop-frame.invariant.2)
        | inr more ↦ omega (arith, c.release.ensures.more more, c.loop-frame.invariant.2)
      ],
    )
