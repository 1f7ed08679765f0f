-- What two views of memory need to have in common, so that a walk over them is the same.
use Rattle.std.specs.Prelude.{◌≡◌, ℕ, ◌+◌, ◌<◌, Option, None, slice_index}
use Rattle.cx_walk.specs.declared.walk.Walk.{Walk}

-- the bytes of the word at a place
abbrev pub AgreesAt : (ℕ → Option ℕ) → (ℕ → Option ℕ) → ℕ → Type 0
AgreesAt first second place = (k : ℕ) → k < 4 → second (place + k) ≡ first (place + k)

-- The second view has the bytes of the first at each place of the walk, and no byte where the first has none. A view of
-- the same RAM is such a one, and so is one that has nothing but the words at these places.
pub record AgreesOn (first second : ℕ → Option ℕ) (walk : Walk) : Type 0 where
  pub places : (i : ℕ) → i < walk.count → AgreesAt first second (slice_index walk.places i)
  pub outside : (place : ℕ) → first place ≡ None → second place ≡ None
