use Rattle.std.proofs.Common.{◌≡◌, ◌+◌, ◌≤◌, length, drop}
use Rattle.cx_slices.specs.Stretches.{stretches_of}
use Rattle.cx_callfmt.proofs.runs.run_count.Given as goal

pub record Counted (l : goal.Live-loop-left) : Type 0 where
  pub within : l.left ≤ length l.bytes
  pub few : l.count + l.left ≤ length l.bytes
  pub count : l.count ≡ length (stretches_of (drop l.left l.bytes))

abbrev pub invariant-loop-left : goal.invariant-loop-left
invariant-loop-left l = Counted l

abbrev pub decreases-loop-left : goal.decreases-loop-left
decreases-loop-left l = l.left
