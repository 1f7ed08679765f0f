use Rattle.std.proofs.Common.{◌≡◌, ℕ, ◌-◌, length}
use Rattle.cx_shadow.specs.Cells.{page_numbered}
use Rattle.cx_shadow.proofs.shadow.reach.Given as goal

abbrev pub invariant-loop-alloc : goal.invariant-loop-alloc
invariant-loop-alloc l = (n : ℕ) → page_numbered l.regions.items n ≡ page_numbered l.fn.regions.items n

abbrev pub decreases-loop-alloc : goal.decreases-loop-alloc
decreases-loop-alloc l = l.count - length l.regions.items
