-- What a load of one to four bytes is in the words of the integers' methods.
use Rattle.std.proofs.Common.{◌≡◌, ℕ, ◌+◌, List, [], ◌∷◌, get_or, arith, add_assoc}
use Rattle.std.specs.Int.{w16, w32, from_le_bytes}
use Rattle.cx_ram.specs.LittleEndian.{loaded}

pub loaded_one : (memory : List ℕ) (i : ℕ) → loaded memory i 1 ≡ get_or memory i 0
unfolding loaded
loaded_one memory i = omega arith

pub loaded_two : (memory : List ℕ) (i : ℕ)
    → loaded memory i 2 ≡ from_le_bytes w16 (get_or memory i 0 ∷ get_or memory (i + 1) 0 ∷ [])
unfolding loaded
loaded_two memory i = omega arith

pub loaded_three : (memory : List ℕ) (i : ℕ)
    → loaded memory i 3 ≡ from_le_bytes w32 (get_or memory i 0 ∷ get_or memory (i + 1) 0 ∷ get_or memory (i + 2) 0 ∷ 0
    ∷ [])
unfolding loaded
loaded_three memory i = simp add_assoc (omega arith)

pub loaded_four : (memory : List ℕ) (i : ℕ)
    → loaded memory i 4 ≡ from_le_bytes w32 (get_or memory i 0 ∷ get_or memory (i + 1) 0 ∷ get_or memory (i + 2) 0
    ∷ get_or memory (i + 3) 0 ∷ [])
unfolding loaded
loaded_four memory i = simp add_assoc (omega arith)
