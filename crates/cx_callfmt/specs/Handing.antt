-- The bytes of a head one by one: what is left of them is the next byte, and what is left behind it.
use Rattle.std.specs.Prelude.{ℕ, zero, suc, ◌+◌, ◌-◌, ◌^◌, nat_le, min, List, [], ◌∷◌, ◌++◌, Option, None, Some}
use Rattle.cx_codec.specs.Place.{Reader, ◌>>=◌, done}
use Rattle.cx_codec.specs.Fields.{byte_at, bytes_at, varint_at, word_at}
use Rattle.cx_codec.specs.Checks.{checked, is_between}
use Rattle.cx_slices.specs.Bytes.{Byte}
use Rattle.cx_slices.specs.Stretches.{bytes_from, bytes_of_stretches}
use Rattle.cx_slicefmt.specs.Reading.{runs_at}

-- So many bytes of a run, from an address on, and so many runs behind it, from a least address on.
pub record Pending : Type 0 where
  pub va : ℕ
  pub size : ℕ
  pub runs : ℕ
  pub least : ℕ

-- all of them, where a run has at most so many bytes
unfoldable pub rest_at : ℕ → Pending → Reader (List Byte)
rest_at most w = do
  bytes ← bytes_at w.size
  runs ← runs_at most w.runs w.least
  done (bytes_from w.va bytes ++ bytes_of_stretches runs)

-- a byte, and what is left behind it
pub record Handed : Type 0 where
  pub byte : Byte
  pub left : Pending

unfoldable pub next_in : ℕ → ℕ → ℕ → ℕ → Reader (Option Handed)
next_in va size runs least = do
  byte ← byte_at
  done (Some (record { byte = (va, byte); left = record { va = va + 1; size = size; runs = runs; least = least } }))

-- the first byte of the next run
unfoldable pub next_run : ℕ → ℕ → ℕ → Reader (Option Handed)
next_run most runs least = do
  va ← checked (λ w. nat_le least w) word_at
  size ← checked (is_between 1 (min most (2 ^ 32 - va))) varint_at
  next_in va (size - 1) runs (va + size + 1)

abbrev pub next_by : ℕ → ℕ → ℕ → ℕ → ℕ → Reader (Option Handed)
next_by most va (suc size) runs least = next_in va size runs least
next_by most va zero (suc runs) least = next_run most runs least
next_by most va zero zero least = done None

-- the next byte, or none where none is left
unfoldable pub next_byte_at : ℕ → Pending → Reader (Option Handed)
next_byte_at most w = next_by most w.va w.size w.runs w.least

-- the byte, and all that is left behind it
abbrev pub rest_behind : ℕ → Option Handed → Reader (List Byte)
rest_behind most None = done []
rest_behind most (Some h) = do
  bytes ← rest_at most h.left
  done (h.byte ∷ bytes)

-- the bytes of so many runs, before the first of them
abbrev pub before_runs : ℕ → Pending
before_runs count = record { va = 0; size = 0; runs = count; least = 0 }
