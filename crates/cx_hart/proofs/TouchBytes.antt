-- The bytes of a value as a touch has them.
use Rattle.std.proofs.Common.{◌≡◌, ℕ, zero, suc, ◌<◌, ◌≤◌, List, [], ◌∷◌, length, take, get_or, refl, ap, arith, w32}
use Rattle.std.specs.Prelude.{slice_index}
use Rattle.std.specs.Int.{from_le_bytes, to_le_bytes}
use Rattle.std.proofs.lemmas.Nat.{le_bytes_4}
use Rattle.std.proofs.Math.Nat.{div-div-eq-div-mul}
use Rattle.cx_ram.specs.LittleEndian.{low_bytes, stored, written}
use Rattle.cx_hart.specs.Touches.{padded}

pub one_byte : (value : ℕ) → slice_index (to_le_bytes w32 value) 0 ∷ 0 ∷ 0 ∷ 0 ∷ [] ≡ padded 4 (low_bytes 1 value)
unfolding low_bytes
one_byte value = refl

pub two_bytes : (value : ℕ) → slice_index (to_le_bytes w32 value) 0 ∷ slice_index (to_le_bytes w32 value) 1 ∷ 0 ∷ 0 ∷ []
    ≡ padded 4 (low_bytes 2 value)
unfolding low_bytes
two_bytes value = refl

pub three_bytes : (value : ℕ) → slice_index (to_le_bytes w32 value) 0 ∷ slice_index (to_le_bytes w32 value) 1
    ∷ slice_index (to_le_bytes w32 value) 2 ∷ 0 ∷ [] ≡ padded 4 (low_bytes 3 value)
unfolding low_bytes
three_bytes value = simp div-div-eq-div-mul

pub four_bytes : (value : ℕ) → to_le_bytes w32 value ≡ padded 4 (low_bytes 4 value)
unfolding low_bytes
four_bytes value = simp div-div-eq-div-mul

-- ---- the same bytes written as a value

low_bytes_of : (bytes : List ℕ) (value len : ℕ) → 1 ≤ len → len ≤ 4 → to_le_bytes w32 value ≡ bytes
    → low_bytes len value ≡ take len bytes
unfolding low_bytes
low_bytes_of bytes value zero some most e = absurd (omega arith)
low_bytes_of bytes value (suc zero) some most e = rw (← e) refl
low_bytes_of bytes value (suc (suc zero)) some most e = rw (← e) refl
low_bytes_of bytes value (suc (suc (suc zero))) some most e = rw (← e) (simp div-div-eq-div-mul)
low_bytes_of bytes value (suc (suc (suc (suc zero)))) some most e = rw (← e) (simp div-div-eq-div-mul)
low_bytes_of bytes value (suc (suc (suc (suc (suc len))))) some most e = absurd (omega arith)

pub stored_touch : (memory bytes : List ℕ) (i len value : ℕ) → 1 ≤ len → len ≤ 4 → length bytes ≡ 4
    → ((k : ℕ) → get_or bytes k 0 < 256) → value ≡ from_le_bytes w32 bytes
    → stored memory i len value ≡ written memory i (take len bytes)
unfolding stored
stored_touch memory bytes i len value some most size fits e =
    ap (written memory i) (low_bytes_of bytes value len some most (le_bytes_4 bytes value size fits e))
