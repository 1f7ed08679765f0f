-- What it means that a step took the value of the outside that it asked for.
use Rattle.std.specs.Prelude.{◌≡◌, ℕ, Some}
use Rattle.cx_hart.specs.Step.{NeedsValue, Outcome, Stepped, ValueLeft}

-- It was carried out, and its record has this value.
abbrev pub Took : ℕ → Outcome → Type 0
Took v (NeedsValue what) = ⊥
Took v ValueLeft = ⊥
Took v (Stepped after rec) = rec.value ≡ Some v
