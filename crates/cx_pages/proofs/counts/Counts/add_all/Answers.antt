-- The pass over a table, one name after the other.
use Rattle.std.proofs.Common.{ℕ, ◌+◌, ◌≤◌, ◌∙◌, get_or, refl, arith, length-set}
use Rattle.cx_pages.specs.Counts.{count_of}
use Rattle.cx_pages.proofs.Tallies.{count_inside}
use Rattle.cx_pages.proofs.Naming.{names-nil, counted_more, names_next, names_here}
use Rattle.cx_pages.proofs.counts.Counts.add_all.Goals as goal

pub loop-frame-init : goal.loop-frame-init
loop-frame-init c = (λ f. let none = names-nil f in omega arith, refl, refl)

pub add-requires-clause-some : goal.add-requires-clause-some
add-requires-clause-some c =
    let g : ℕ = get_or c.args.table.now c.loop-frame.frame-index 0 in
    omega (
      arith,
      c.loop-frame.invariant.0 g,
      c.requires.some g (names_here g c.args.table.now c.loop-frame.frame-index
          c.loop-frame-test.true refl),
    )

pub add-requires-clause-room : goal.add-requires-clause-room
add-requires-clause-room c =
    let g : ℕ = get_or c.args.table.now c.loop-frame.frame-index 0 in
    omega (
      arith,
      c.loop-frame.invariant.0 g,
      c.requires.room g,
      names_next g c.args.table.now c.loop-frame.frame-index
          c.loop-frame-test.true refl,
    )

pub loop-frame-preserved : goal.loop-frame-preserved
loop-frame-preserved c =
    let g : ℕ = get_or c.args.table.now c.loop-frame.frame-index 0 in
    let some : 1 ≤ count_of c.loop-frame.self.counts g =
    omega (
      arith,
      c.loop-frame.invariant.0 g,
      c.requires.some g (names_here g c.args.table.now c.loop-frame.frame-index c.loop-frame-test.true refl),
    ) in (
      rw c.add.ensures.counts (counted_more _ _ _ _ g c.loop-frame-test.true refl (count_inside _ g some)
          c.loop-frame.invariant.0),
      rw c.add.ensures.counts (length-set c.loop-frame.self.counts g (count_of c.loop-frame.self.counts g + 1)
          ∙ c.loop-frame.invariant.1),
      c.add.ensures.spare ∙ c.loop-frame.invariant.2,
    )
