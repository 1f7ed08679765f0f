-- Events by their steps, and recordings that begin alike.
use Rattle.std.specs.Prelude.{◌≡◌, ℕ, ◌+◌, ◌<◌, ◌≤◌, List, [], ◌∷◌}
use Rattle.cx_log.specs.Recording.{Recorded, Recording}
use Rattle.cx_run.specs.Due.{due_at}

-- each event comes before a step below this one
abbrev pub AllBelow : ℕ → List Recorded → Type 0
AllBelow step [] = Unit {0}
AllBelow step (r ∷ events) = (r.step < step) × AllBelow step events

-- no event comes before a step below this one
abbrev pub NoneBelow : ℕ → List Recorded → Type 0
NoneBelow step [] = Unit {0}
NoneBelow step (r ∷ events) = (step ≤ r.step) × NoneBelow step events

-- They begin with one machine at one step, and the same is due to their first n steps.
pub record BeginAlike (R S : Recording) (n : ℕ) : Type 0 where
  pub base : S.base ≡ R.base
  pub start : S.start ≡ R.start
  pub memory : S.memory ≡ R.memory
  pub due : (k : ℕ) → k < n → due_at S.events (R.base + k) ≡ due_at R.events (R.base + k)
