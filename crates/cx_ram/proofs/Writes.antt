-- What the code's ways to write make of a list.
use Rattle.std.proofs.Common.{◌≡◌, ℕ, zero, suc, ◌/◌, List, length, take, refl, ap}
use Rattle.std.specs.Int.{w32, to_le_bytes}
use Rattle.std.proofs.Math.Nat.{div-div-eq-div-mul}
use Rattle.cx_ram.specs.LittleEndian.{written, low_bytes, stored}

pub length-low_bytes : (len value : ℕ) → length (low_bytes len value) ≡ len
unfolding low_bytes
length-low_bytes zero value = refl
length-low_bytes (suc len) value = ap suc (length-low_bytes len (value / 256))

low_bytes-four : (value : ℕ) → low_bytes 4 value ≡ to_le_bytes w32 value
unfolding low_bytes
low_bytes-four value = simp div-div-eq-div-mul

low_bytes-three : (value : ℕ) → low_bytes 3 value ≡ take 3 (to_le_bytes w32 value)
unfolding low_bytes
low_bytes-three value = simp div-div-eq-div-mul

pub stored_one : (memory bytes : List ℕ) (at value : ℕ) → bytes ≡ to_le_bytes w32 value
    → written memory at (take 1 bytes) ≡ stored memory at 1 value
unfolding stored low_bytes
stored_one memory bytes at value e = rw e refl

pub stored_two : (memory bytes : List ℕ) (at value : ℕ) → bytes ≡ to_le_bytes w32 value
    → written memory at (take 2 bytes) ≡ stored memory at 2 value
unfolding stored low_bytes
stored_two memory bytes at value e = rw e refl

pub stored_three : (memory bytes : List ℕ) (at value : ℕ) → bytes ≡ to_le_bytes w32 value
    → written memory at (take 3 bytes) ≡ stored memory at 3 value
unfolding stored
stored_three memory bytes at value e = rw (e, ← low_bytes-three value) refl

pub stored_four : (memory bytes : List ℕ) (at value : ℕ) → bytes ≡ to_le_bytes w32 value
    → written memory at bytes ≡ stored memory at 4 value
unfolding stored
stored_four memory bytes at value e = rw (e, ← low_bytes-four value) refl
