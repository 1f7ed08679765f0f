-- The words of the view of RAM are what loads give.
use Rattle.std.proofs.Common.{◌≡◌, ℕ, ◌+◌, ◌^◌, ◌<◌, ◌≤◌, Bool, true, false, List, [], ◌∷◌, length, None, Some, refl}
use Rattle.std.proofs.Common.{sym, ap, ◌∙◌, arith, w32, nat_le}
use Rattle.std.proofs.Math.Nat.{lt_of_not-le}
use borrow.Author.Tests.{leb-true, leb-false}
use Rattle.std.specs.Int.{from_le_bytes}
use Rattle.cx_map.specs.Map.{IsInRam, ram_index}
use Rattle.cx_ram.specs.LittleEndian.{loaded}
use Rattle.cx_ram.proofs.Loads.{loaded_one, loaded_four}
use Rattle.cx_walk.specs.Bytes.{ram_bytes, word_in}
use Rattle.cx_walk.proofs.RamWord.{ram_word_before, ram_word_past, ram_word_at}

pub word_inside : (memory : List ℕ) (place : ℕ) → IsInRam (length memory) place 4
    → word_in (ram_bytes memory) place ≡ Some (loaded memory (ram_index place) 4)
word_inside memory place inside =
    ram_word_at memory (ram_index place) place (omega arith) (omega arith)
    ∙ ap Some (sym (loaded_four memory (ram_index place)))

outside_by : (memory : List ℕ) (place : ℕ) (low : Bool) → nat_le (2 ^ 31) place ≡ low
    → ¬ (IsInRam (length memory) place 4) → word_in (ram_bytes memory) place ≡ None
outside_by memory place false e outside = ram_word_before memory place (leb-false _ _ e)
outside_by memory place true e outside =
    let low : 2 ^ 31 ≤ place = leb-true _ _ e in
    let past : 2 ^ 31 + length memory < place + 4 =
    lt_of_not-le (λ within. outside (record { low = low; high = within })) in
    ram_word_past memory place low (omega arith)

pub word_outside : (memory : List ℕ) (place : ℕ) → ¬ (IsInRam (length memory) place 4)
    → word_in (ram_bytes memory) place ≡ None
word_outside memory place outside = outside_by memory place (nat_le (2 ^ 31) place) refl outside

-- four loads of a byte are a load of four
pub word_of_bytes : (memory : List ℕ) (place : ℕ) → 2 ^ 31 ≤ place
    → from_le_bytes w32 (loaded memory (ram_index place) 1 ∷ loaded memory (ram_index (place + 1)) 1 ∷ loaded memory
    (ram_index (place + 2)) 1 ∷ loaded memory (ram_index (place + 3)) 1 ∷ [])
    ≡ loaded memory (ram_index place) 4
word_of_bytes memory place low =
    let one : ram_index (place + 1) ≡ ram_index place + 1 = omega arith in
    let two : ram_index (place + 2) ≡ ram_index place + 2 = omega arith in
    let three : ram_index (place + 3) ≡ ram_index place + 3 = omega arith in
    rw (one, two, three, loaded_four memory (ram_index place)) (simp loaded_one)

pub word_beyond : (memory : List ℕ) (place : ℕ) → 2 ^ 31 + length memory < place + 4
    → word_in (ram_bytes memory) place ≡ None
word_beyond memory place past = word_outside memory place (λ inside. omega arith)
