use Rattle.std.proofs.Common.{◌≡◌, ◌-◌, ◌≤◌, take, true}
use Rattle.cx_observe.specs.Effects.{program_words}
use Rattle.cx_program.proofs.words.are_told.Given as goal

pub record Alike (l : goal.Live-loop-at) : Type 0 where
  pub some : 1 ≤ l.at
  pub within : l.at ≤ 32
  pub alike : l.same ≡ true → take l.at l.words ≡ take l.at (program_words l.obs.pc l.obs.x)

abbrev pub invariant-loop-at : goal.invariant-loop-at
invariant-loop-at l = Alike l

abbrev pub decreases-loop-at : goal.decreases-loop-at
decreases-loop-at l = 32 - l.at
