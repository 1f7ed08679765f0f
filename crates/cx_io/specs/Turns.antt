-- What a turn of a world does to the list of the answers that it has given.
use Rattle.std.specs.Prelude.{
  ◌≡◌,
  ◌^◌,
  ◌≤◌,
  List,
  [],
  ◌∷◌,
  ◌++◌,
  length,
  Option,
  None,
  Some,
  MatchOption,
  Result,
  Ok,
  Err,
}
use Rattle.cx_io.specs.declared.outside.Outside.{Outside}
use Rattle.cx_io.specs.declared.outside.Failed.{Failed}

-- The answer goes to the end of a list that is told, and a failed turn leaves it. A list of fewer than 2^63 answers
-- stays told, and one that isn't told isn't told afterwards.
abbrev pub AddsAnswer : Option (List Outside) → Option (List Outside) → Result Outside Failed → Type 0
AddsAnswer None now answer = now ≡ None
AddsAnswer (Some given) now (Ok answer) = MatchOption now (2 ^ 63 ≤ length given) (λ all. all ≡ given ++ answer ∷ [])
AddsAnswer (Some given) now (Err failed) = now ≡ Some given
