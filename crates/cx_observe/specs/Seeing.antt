-- The bytes that an observation shows.
use Rattle.std.specs.Prelude.{ℕ, ◌+◌, List, [], ◌∷◌, ◌++◌, length, take, Option, None, Some}
use Rattle.cx_exec.specs.Arithmetic.{wrapped}
use Rattle.cx_hart.specs.Touches.{padded}
use Rattle.cx_ram.specs.LittleEndian.{low_bytes}
use Rattle.cx_slices.specs.Bytes.{Byte, sorted}
use Rattle.cx_observe.specs.declared.obs.Obs.{Obs}
use Rattle.cx_observe.specs.declared.obs.Seen.{Seen}

-- these bytes at an address
abbrev pub seen_with : ℕ → List ℕ → Seen
seen_with va bytes = record { va = va; len = length bytes; bytes = padded 4 bytes }

-- Bytes at an address and those that follow it. Addresses go on at 0 after 2^32 − 1 (Unprivileged ISA, 1.4).
abbrev pub bytes_on : ℕ → List ℕ → List Byte
bytes_on va [] = []
bytes_on va (b ∷ bs) = (wrapped va, b) ∷ bytes_on (va + 1) bs

abbrev pub bytes_shown : Option Seen → List Byte
bytes_shown None = []
bytes_shown (Some s) = bytes_on s.va (take s.len s.bytes)

-- the bytes of the instruction, and those that it read
unfoldable pub sights : Obs → List Byte
sights o = bytes_on o.pc (low_bytes 4 o.word) ++ bytes_shown o.read

-- the same in rising order, each address once
abbrev pub seen_by : Obs → List Byte
seen_by o = sorted (sights o)

-- What it leaves: the bytes that it wrote, and elsewhere those that it saw.
abbrev pub left_by : Obs → List Byte
left_by o = bytes_shown o.write ++ seen_by o
