use Rattle.std.proofs.Common.{◌≡◌, ℕ, ◌-◌, length}
use Rattle.cx_shadow.specs.Cells.{page_in}
use Rattle.cx_shadow.proofs.shadow.fill.Given as goal

abbrev pub invariant-loop-region : goal.invariant-loop-region
invariant-loop-region l = (i : ℕ) → page_in l.region i ≡ page_in l.fn.region i

abbrev pub decreases-loop-region : goal.decreases-loop-region
decreases-loop-region l = l.count - length l.region.items
