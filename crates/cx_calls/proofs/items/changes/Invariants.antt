use Rattle.std.proofs.Common.{◌≡◌, ◌-◌, ◌≤◌, length, take}
use Rattle.cx_slices.specs.Words.{changes}
use Rattle.cx_calls.proofs.items.changes.Given as goal

pub record Changing (l : goal.Live-loop-at) : Type 0 where
  pub within : l.at ≤ 32
  pub size : length l.changes ≡ 32
  pub done : take l.at l.changes ≡ take l.at (changes l.stands l.wanted)

abbrev pub invariant-loop-at : goal.invariant-loop-at
invariant-loop-at l = Changing l

abbrev pub decreases-loop-at : goal.decreases-loop-at
decreases-loop-at l = 32 - l.at
