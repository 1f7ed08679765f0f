use Rattle.std.proofs.Common.{◌≡◌, ◌-◌, ◌≤◌, length, take}
use Rattle.cx_slices.specs.Words.{changed}
use Rattle.cx_alone.proofs.handing.changed.Given as goal

pub record Changing (l : goal.Live-loop-at) : Type 0 where
  pub within : l.at ≤ 32
  pub size : length l.words ≡ 32
  pub done : take l.at l.words ≡ take l.at (changed l.stands l.items)

abbrev pub invariant-loop-at : goal.invariant-loop-at
invariant-loop-at l = Changing l

abbrev pub decreases-loop-at : goal.decreases-loop-at
decreases-loop-at l = 32 - l.at
