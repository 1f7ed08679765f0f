-- Which bytes of RAM a step reads, by its record.
use Rattle.std.specs.Prelude.{ℕ, zero, suc, ◌+◌, nat_le, if◌then◌else◌, List, [], ◌∷◌, ◌++◌, take, Option, None, Some}
use Rattle.cx_map.specs.Map.{ram_index}
use Rattle.cx_map.specs.declared.TheConstants.{RAM_START}
use Rattle.cx_hart.specs.declared.record.StepRec.{StepRec}
use Rattle.cx_hart.specs.declared.record.Touch.{Touch}

-- the n indices from i on
abbrev pub indices : ℕ → ℕ → List ℕ
indices i zero = []
indices i (suc n) = i ∷ indices (i + 1) n

-- the bytes of RAM from a place on; a word of a device is below RAM
abbrev pub ram_indices : ℕ → ℕ → List ℕ
ram_indices place len = if nat_le RAM_START place then indices (ram_index place) len else []

abbrev pub touch_indices : Option Touch → List ℕ
touch_indices None = []
touch_indices (Some t) = ram_indices t.pa t.len

abbrev pub entry_indices : List ℕ → List ℕ
entry_indices [] = []
entry_indices (place ∷ places) = ram_indices place 4 ++ entry_indices places

-- The bytes of the fetch, of what was read, and of the entries of page tables.
unfoldable pub read_indices : StepRec → List ℕ
read_indices r =
    touch_indices r.fetch
    ++ (touch_indices r.read ++ (touch_indices r.read_more ++ entry_indices (take r.walked r.places)))
