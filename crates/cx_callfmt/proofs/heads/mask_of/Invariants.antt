use Rattle.std.proofs.Common.{◌≡◌, ◌≤◌, drop}
use Rattle.cx_slicefmt.specs.Text.{mask_of}
use Rattle.cx_callfmt.proofs.heads.mask_of.Given as goal

pub record Masked (l : goal.Live-loop-left) : Type 0 where
  pub within : l.left ≤ 32
  pub mask : l.mask ≡ mask_of (drop l.left l.words)

abbrev pub invariant-loop-left : goal.invariant-loop-left
invariant-loop-left l = Masked l

abbrev pub decreases-loop-left : goal.decreases-loop-left
decreases-loop-left l = l.left
