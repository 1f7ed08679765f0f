-- The words of RAM over a list of bytes, for a memory of the tests: the lemmas of cx_walk under names of this crate.
use Rattle.std.proofs.Common.{◌≡◌, ℕ, ◌+◌, ◌<◌, ◌≤◌, List, [], ◌∷◌, length, get_or, Option, None, Some, w32}
use Rattle.std.specs.Int.{from_le_bytes}
use Rattle.cx_map.specs.Map.{ram_index}
use Rattle.cx_map.specs.declared.TheConstants.{RAM_START}
use Rattle.cx_walk.specs.Bytes.{ram_bytes, word_in}
use Rattle.cx_walk.proofs.RamWord.{ram_word_at, ram_word_before, ram_word_past}

pub word_before : (ram : List ℕ) (place : ℕ) → place < RAM_START → word_in (ram_bytes ram) place ≡ None
word_before ram place below = ram_word_before ram place below

pub word_past : (ram : List ℕ) (place : ℕ) → RAM_START ≤ place → length ram < ram_index place + 4
    → word_in (ram_bytes ram) place ≡ None
word_past ram place low past = ram_word_past ram place low past

pub word_at : (ram : List ℕ) (at place : ℕ) → place ≡ RAM_START + at → at + 4 ≤ length ram
    → word_in (ram_bytes ram) place
    ≡ Some (from_le_bytes w32 (get_or ram at 0 ∷ get_or ram (at + 1) 0 ∷ get_or ram (at + 2) 0 ∷ get_or ram (at + 3)
    0 ∷ []))
word_at ram at place e inside = ram_word_at ram at place e inside
