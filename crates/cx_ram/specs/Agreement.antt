-- Two memories that have the same bytes somewhere, and that are written alike.
use Rattle.std.specs.Prelude.{◌≡◌, ◌⊎◌, ℕ, List, All, slice_index}

-- They have the same bytes at these indices.
abbrev pub AgreeOn : List ℕ → List ℕ → List ℕ → Type 0
AgreeOn indices p q = All (λ i. slice_index p i ≡ slice_index q i) indices

-- Each byte has the same new value in both, or is unchanged in both.
abbrev pub SameWrites : List ℕ → List ℕ → List ℕ → List ℕ → Type 0
SameWrites p p' q q' = (i : ℕ) → (slice_index p' i ≡ slice_index q' i) ⊎ ((slice_index p' i ≡ slice_index p i)
    × (slice_index q' i ≡ slice_index q i))
