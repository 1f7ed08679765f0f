use Rattle.std.proofs.Common.{◌≡◌, ℕ, ◌-◌, ◌<◌, false, length, drop}
use Rattle.cx_slicefmt.specs.Writing.{ends_run}
use Rattle.cx_callfmt.proofs.runs.first_run.Given as goal

pub record Going (l : goal.Live-loop-last) : Type 0 where
  pub within : l.last < length l.bytes
  pub below : (k : ℕ) → k < l.last → ends_run (drop k l.bytes) ≡ false

abbrev pub invariant-loop-last : goal.invariant-loop-last
invariant-loop-last l = Going l

abbrev pub decreases-loop-last : goal.decreases-loop-last
decreases-loop-last l = length l.bytes - l.last
