-- Numbers on a flat list of bytes. The byte at the lowest place is the least significant one: the choice that the
-- Unprivileged specification leaves to the execution environment (20191213, section 2.6).
use Rattle.std.specs.Prelude.{ℕ, zero, suc, ◌+◌, ◌*◌, ◌/◌, ◌%◌, List, [], ◌∷◌, ◌++◌, length, take, drop, slice_index}

-- The value of the len bytes that begin at index i.
unfoldable pub loaded : List ℕ → ℕ → ℕ → ℕ
loaded memory i zero = 0
loaded memory i (suc len) = slice_index memory i + 256 * loaded memory (i + 1) len

-- The len low bytes of a value, the lowest first.
unfoldable pub low_bytes : ℕ → ℕ → List ℕ
low_bytes zero value = []
low_bytes (suc len) value = value % 256 ∷ low_bytes len (value / 256)

-- The memory with these bytes in the place of those from index i on.
unfoldable pub written : List ℕ → ℕ → List ℕ → List ℕ
written memory i bytes = take i memory ++ (bytes ++ drop (i + length bytes) memory)

-- The memory with the len low bytes of a value in the place of those from index i on.
unfoldable pub stored : List ℕ → ℕ → ℕ → ℕ → List ℕ
stored memory i len value = written memory i (low_bytes len value)
