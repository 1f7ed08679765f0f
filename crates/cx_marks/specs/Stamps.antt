-- The turns at which addresses were marked.
use Rattle.std.specs.Prelude.{◌≡◌, ℕ, ◌≤◌, Some}
use Rattle.cx_shadow.specs.Cells.{byte_of}
use Rattle.cx_shadow.specs.declared.shadow.Shadow.{Shadow}

-- No stamp is of a later turn.
abbrev pub AreBefore : ℕ → Shadow → Type 0
AreBefore turn stamps = (a n : ℕ) → byte_of stamps a ≡ Some n → n ≤ turn
