-- A view of memory: the byte at each place, where one stands.
use Rattle.std.specs.Prelude.{ℕ, ◌+◌, nat_le, if◌then◌else◌, List, [], ◌∷◌, slice_get, Option, None, Some}
use Rattle.std.specs.Int.{w32, from_le_bytes}
use Rattle.cx_map.specs.Map.{ram_index}
use Rattle.cx_map.specs.declared.TheConstants.{RAM_START}

-- the number of four bytes, the lowest first, where all are there
abbrev pub four_bytes : Option ℕ → Option ℕ → Option ℕ → Option ℕ → Option ℕ
four_bytes (Some a) (Some b) (Some c) (Some d) = Some (from_le_bytes w32 (a ∷ b ∷ c ∷ d ∷ []))
four_bytes (Some a) (Some b) (Some c) None = None
four_bytes (Some a) (Some b) None d = None
four_bytes (Some a) None c d = None
four_bytes None b c d = None

-- the word at a place
unfoldable pub word_in : (ℕ → Option ℕ) → ℕ → Option ℕ
word_in bytes place = four_bytes (bytes place) (bytes (place + 1)) (bytes (place + 2)) (bytes (place + 3))

-- The bytes of RAM. A view of RAM and nothing else has this map.
unfoldable pub ram_bytes : List ℕ → ℕ → Option ℕ
ram_bytes ram place = if nat_le RAM_START place then slice_get ram (ram_index place) else None
