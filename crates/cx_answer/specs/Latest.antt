-- The last of what is met on a stretch of places.
use Rattle.std.specs.Prelude.{◌≡◌, ℕ, zero, suc, ◌+◌, ◌<◌, ◌≤◌, Option, None, Some}

-- the later of two
abbrev pub or_earlier : {X : Type 0} → Option X → Option X → Option X
or_earlier None earlier = earlier
or_earlier (Some later) earlier = Some later

-- Of the n places from a first one on, what is met at the last at which something is.
abbrev pub latest : {X : Type 0} → (ℕ → Option X) → ℕ → ℕ → Option X
latest met first zero = None
latest met first (suc n) = or_earlier (met (first + n)) (latest met first n)

-- This is met at a place of them, and nothing behind it.
pub record IsLatest {X : Type 0} (met : ℕ → Option X) (first n : ℕ) (x : X) : Type 0 where
  pub place : ℕ
  pub from : first ≤ place
  pub below : place < first + n
  pub is : met place ≡ Some x
  pub none_behind : (k : ℕ) → place < k → k < first + n → met k ≡ None

-- Nothing is met at any of them.
abbrev pub IsNoneMet : {X : Type 0} → (ℕ → Option X) → ℕ → ℕ → Type 0
IsNoneMet met first n = (k : ℕ) → first ≤ k → k < first + n → met k ≡ None
