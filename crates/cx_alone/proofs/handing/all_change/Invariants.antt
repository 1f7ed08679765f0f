use Rattle.std.proofs.Common.{◌≡◌, ◌-◌, ◌≤◌, drop}
use Rattle.cx_slices.specs.Words.{all_change}
use Rattle.cx_alone.proofs.handing.all_change.Given as goal

pub record Testing (l : goal.Live-loop-at) : Type 0 where
  pub within : l.at ≤ 32
  pub rest : all_change l.stands l.items ≡ all_change (drop l.at l.stands) (drop l.at l.items)

abbrev pub invariant-loop-at : goal.invariant-loop-at
invariant-loop-at l = Testing l

abbrev pub decreases-loop-at : goal.decreases-loop-at
decreases-loop-at l = 32 - l.at
