-- The addresses of a set.
use Rattle.std.specs.Prelude.{ℕ, zero, suc, ◌+◌, ◌&&◌, Bool, true}
use Rattle.cx_shadow.specs.Cells.{byte_of}
use Rattle.cx_slices.specs.Bytes.{is_byte}
use Rattle.cx_marks.specs.declared.marks.Marks.{Marks}

-- It was marked at this turn.
unfoldable pub is_marked : Marks → ℕ → Bool
is_marked m a = is_byte (byte_of m.stamps a) m.turn

-- So many addresses, from one on, are marked.
abbrev pub all_marked : Marks → ℕ → ℕ → Bool
all_marked m a zero = true
all_marked m a (suc n) = is_marked m a && all_marked m (a + 1) n
