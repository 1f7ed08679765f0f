-- The bytes of a head that no step accessed yet, as a set of addresses and how many they are.
use Rattle.std.specs.Prelude.{◌≡◌, ℕ, ◌==◌, ◌||◌, Bool, not, List, filter, length, is_some}
use Rattle.std.specs.List.{list_all}
use Rattle.cx_slices.specs.Bytes.{Byte, BytesRise, byte_found}

-- These bytes are owed: the marks stand at their addresses and nowhere else.
pub record Owes (marks : ℕ → Bool) (count : ℕ) (owed : List Byte) : Type 0 where
  pub rises : BytesRise 0 owed
  pub marked : (a : ℕ) → marks a ≡ is_some (byte_found owed a)
  pub size : count ≡ length owed

-- those at other addresses
abbrev pub without : ℕ → List Byte → List Byte
without a owed = filter (λ e. not (a == e.0)) owed

-- those that a step which leaves these bytes doesn't access
abbrev pub owed_behind : List Byte → List Byte → List Byte
owed_behind left owed = filter (λ e. not (is_some (byte_found left e.0))) owed

-- Of these bytes those at marked addresses are seen too.
abbrev pub marked_met : List Byte → (ℕ → Bool) → List Byte → Bool
marked_met seen marks written = list_all (λ f. not (marks f.0) || is_some (byte_found seen f.0)) written
