-- Stretches of bytes, as a step's record tells them.
use Rattle.std.specs.Prelude.{ℕ, ◌-◌, List, ◌++◌, length, replicate}
use Rattle.cx_map.specs.Map.{ram_index}
use Rattle.cx_ram.specs.LittleEndian.{loaded, low_bytes}
use Rattle.cx_hart.specs.declared.findings.Part.{Part}
use Rattle.cx_hart.specs.declared.record.Touch.{Touch}

-- a list of n numbers, with 0 behind those that are there
abbrev pub padded : ℕ → List ℕ → List ℕ
padded n xs = xs ++ replicate (n - length xs) 0

-- the low bytes of a value, at the bytes of a part
unfoldable pub touch : Part → ℕ → Touch
touch part value = record { va = part.va; pa = part.pa; len = part.len; bytes = padded 4 (low_bytes part.len value) }

-- what stands in memory at the bytes of a part
abbrev pub part_value : List ℕ → Part → ℕ
part_value memory part = loaded memory (ram_index part.pa) part.len
