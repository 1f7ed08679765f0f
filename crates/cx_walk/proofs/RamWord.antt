-- The words of RAM.
use Rattle.std.proofs.Common.{◌≡◌, ℕ, ◌+◌, ◌<◌, ◌≤◌, List, [], ◌∷◌, length, get_or, Option, None, Some, refl, arith}
use Rattle.std.proofs.Common.{w32}
use Rattle.std.proofs.lemmas.Bool.{lt-leb}
use Rattle.std.proofs.lemmas.Option.{slice_get_past, slice_get-get_or}
use borrow.Author.Tests.{le-leb}
use Rattle.std.specs.Int.{from_le_bytes}
use Rattle.cx_walk.specs.Bytes.{word_in, four_bytes, ram_bytes}
use Rattle.cx_map.specs.Map.{ram_index}
use Rattle.cx_map.specs.declared.TheConstants.{RAM_START}

ram_byte_before : (ram : List ℕ) (place : ℕ) → place < RAM_START → ram_bytes ram place ≡ None
unfolding ram_bytes
ram_byte_before ram place below = rw (lt-leb RAM_START place below) refl

ram_byte_past : (ram : List ℕ) (place : ℕ) → RAM_START ≤ place → length ram ≤ ram_index place
    → ram_bytes ram place ≡ None
unfolding ram_bytes
ram_byte_past ram place low past = rw (le-leb RAM_START place low) (slice_get_past ram (ram_index place) past)

ram_byte_at : (ram : List ℕ) (at place : ℕ) → place ≡ RAM_START + at → at < length ram
    → ram_bytes ram place ≡ Some (get_or ram at 0)
unfolding ram_bytes
ram_byte_at ram at place e inside =
    let low : RAM_START ≤ place = omega arith in
    let here : ram_index place ≡ at = omega arith in
    rw (le-leb RAM_START place low, here) (slice_get-get_or ram at 0 inside)

none_last : (a b c : Option ℕ) → four_bytes a b c None ≡ None
none_last None b c = refl
none_last (Some a) None c = refl
none_last (Some a) (Some b) None = refl
none_last (Some a) (Some b) (Some c) = refl

pub ram_word_before : (ram : List ℕ) (place : ℕ) → place < RAM_START → word_in (ram_bytes ram) place ≡ None
unfolding word_in
ram_word_before ram place below = rw (ram_byte_before ram place below) refl

pub ram_word_past : (ram : List ℕ) (place : ℕ) → RAM_START ≤ place → length ram < ram_index place + 4
    → word_in (ram_bytes ram) place ≡ None
unfolding word_in
ram_word_past ram place low past =
    rw (ram_byte_past ram (place + 3) (omega arith) (omega arith))
    (none_last (ram_bytes ram place) (ram_bytes ram (place + 1)) (ram_bytes ram (place + 2)))

-- at is where the word stands in RAM
pub ram_word_at : (ram : List ℕ) (at place : ℕ) → place ≡ RAM_START + at → at + 4 ≤ length ram
    → word_in (ram_bytes ram) place
    ≡ Some (from_le_bytes w32 (get_or ram at 0 ∷ get_or ram (at + 1) 0 ∷ get_or ram (at + 2) 0 ∷ get_or ram (at + 3)
    0 ∷ []))
unfolding word_in
ram_word_at ram at place e inside =
    rw (
      ram_byte_at ram at place e (omega arith),
      ram_byte_at ram (at + 1) (place + 1) (omega arith) (omega arith),
      ram_byte_at ram (at + 2) (place + 2) (omega arith) (omega arith),
      ram_byte_at ram (at + 3) (place + 3) (omega arith) (omega arith),
    ) refl
