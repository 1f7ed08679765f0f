-- Bytes of two parts, and the word that four bytes are.
use Rattle.std.proofs.Common.{◌≡◌, ℕ, zero, suc, ◌+◌, ◌≤◌, List, [], ◌∷◌, ◌++◌, length, take, slice_index, refl, ap}
use Rattle.std.proofs.Common.{arith, w32}
use Rattle.std.specs.Int.{from_le_bytes}
use Rattle.cx_hart.specs.Touches.{padded}
use Rattle.cx_ram.specs.LittleEndian.{loaded}
use Rattle.cx_ram.proofs.Loads.{loaded_four}

pub loaded_word : (bytes : List ℕ) → length bytes ≡ 4 → loaded bytes 0 4 ≡ from_le_bytes w32 bytes
loaded_word [] size = absurd (omega arith)
loaded_word (a ∷ []) size = absurd (omega arith)
loaded_word (a ∷ b ∷ []) size = absurd (omega arith)
loaded_word (a ∷ b ∷ c ∷ []) size = absurd (omega arith)
loaded_word (a ∷ b ∷ c ∷ d ∷ []) size = loaded_four (a ∷ b ∷ c ∷ d ∷ []) 0
loaded_word (a ∷ b ∷ c ∷ d ∷ e ∷ es) size = absurd (omega arith)

-- ---- one, two and three bytes before those of a second part, which has zeros behind its own

no_size : {P : Type 0} (n : ℕ) → suc (suc (suc (suc (suc n)))) ≡ 4 → P
no_size n is = absurd (omega arith)

front : (k d e f g : ℕ) → 1 ≤ k → k ≤ 3 → d ∷ e ∷ f ∷ g ∷ [] ≡ padded 4 (take k (d ∷ e ∷ f ∷ g ∷ []))
    → (a : ℕ) → a ∷ d ∷ e ∷ f ∷ [] ≡ padded 4 (a ∷ take k (d ∷ e ∷ f ∷ g ∷ []))
front zero d e f g some most zeros a = absurd (omega arith)
front (suc zero) d e f g some most zeros a =
    rw (ap (λ (l : List ℕ). slice_index l 1) zeros, ap (λ (l : List ℕ). slice_index l 2) zeros) refl
front (suc (suc zero)) d e f g some most zeros a = rw (ap (λ (l : List ℕ). slice_index l 2) zeros) refl
front (suc (suc (suc zero))) d e f g some most zeros a = refl
front (suc (suc (suc (suc k)))) d e f g some most zeros a = absurd (omega arith)

front_two : (k d e f g : ℕ) → 1 ≤ k → k ≤ 2 → d ∷ e ∷ f ∷ g ∷ [] ≡ padded 4 (take k (d ∷ e ∷ f ∷ g ∷ []))
    → (a b : ℕ) → a ∷ b ∷ d ∷ e ∷ [] ≡ padded 4 (a ∷ b ∷ take k (d ∷ e ∷ f ∷ g ∷ []))
front_two zero d e f g some most zeros a b = absurd (omega arith)
front_two (suc zero) d e f g some most zeros a b = rw (ap (λ (l : List ℕ). slice_index l 1) zeros) refl
front_two (suc (suc zero)) d e f g some most zeros a b = refl
front_two (suc (suc (suc k))) d e f g some most zeros a b = absurd (omega arith)

front_three : (k d e f g : ℕ) → 1 ≤ k → k ≤ 1 → (a b c : ℕ)
    → a ∷ b ∷ c ∷ d ∷ [] ≡ padded 4 (a ∷ b ∷ c ∷ take k (d ∷ e ∷ f ∷ g ∷ []))
front_three zero d e f g some most a b c = absurd (omega arith)
front_three (suc zero) d e f g some most a b c = refl
front_three (suc (suc k)) d e f g some most a b c = absurd (omega arith)

pub one_before : (first more : List ℕ) (k : ℕ) → length first ≡ 4 → length more ≡ 4 → 1 ≤ k → 1 + k ≤ 4
    → more ≡ padded 4 (take k more)
    → slice_index first 0 ∷ slice_index more 0 ∷ slice_index more 1 ∷ slice_index more 2 ∷ []
    ≡ padded 4 (take 1 first ++ take k more)
one_before [] more k first_size size some most zeros = absurd (omega arith)
one_before (a ∷ []) more k first_size size some most zeros = absurd (omega arith)
one_before (a ∷ b ∷ []) more k first_size size some most zeros = absurd (omega arith)
one_before (a ∷ b ∷ c ∷ []) more k first_size size some most zeros = absurd (omega arith)
one_before (a ∷ b ∷ c ∷ z ∷ []) [] k first_size size some most zeros = absurd (omega arith)
one_before (a ∷ b ∷ c ∷ z ∷ []) (d ∷ []) k first_size size some most zeros = absurd (omega arith)
one_before (a ∷ b ∷ c ∷ z ∷ []) (d ∷ e ∷ []) k first_size size some most zeros = absurd (omega arith)
one_before (a ∷ b ∷ c ∷ z ∷ []) (d ∷ e ∷ f ∷ []) k first_size size some most zeros = absurd (omega arith)
one_before (a ∷ b ∷ c ∷ z ∷ []) (d ∷ e ∷ f ∷ g ∷ []) k first_size size some most zeros = front k d e f g (omega arith) (omega arith) zeros a
one_before (a ∷ b ∷ c ∷ z ∷ []) (d ∷ e ∷ f ∷ g ∷ h ∷ hs) k first_size size some most zeros = no_size (length hs) size
one_before (a ∷ b ∷ c ∷ z ∷ y ∷ ys) more k first_size size some most zeros = no_size (length ys) first_size

pub two_before : (first more : List ℕ) (k : ℕ) → length first ≡ 4 → length more ≡ 4 → 1 ≤ k → 2 + k ≤ 4
    → more ≡ padded 4 (take k more)
    → slice_index first 0 ∷ slice_index first 1 ∷ slice_index more 0 ∷ slice_index more 1 ∷ []
    ≡ padded 4 (take 2 first ++ take k more)
two_before [] more k first_size size some most zeros = absurd (omega arith)
two_before (a ∷ []) more k first_size size some most zeros = absurd (omega arith)
two_before (a ∷ b ∷ []) more k first_size size some most zeros = absurd (omega arith)
two_before (a ∷ b ∷ c ∷ []) more k first_size size some most zeros = absurd (omega arith)
two_before (a ∷ b ∷ c ∷ z ∷ []) [] k first_size size some most zeros = absurd (omega arith)
two_before (a ∷ b ∷ c ∷ z ∷ []) (d ∷ []) k first_size size some most zeros = absurd (omega arith)
two_before (a ∷ b ∷ c ∷ z ∷ []) (d ∷ e ∷ []) k first_size size some most zeros = absurd (omega arith)
two_before (a ∷ b ∷ c ∷ z ∷ []) (d ∷ e ∷ f ∷ []) k first_size size some most zeros = absurd (omega arith)
two_before (a ∷ b ∷ c ∷ z ∷ []) (d ∷ e ∷ f ∷ g ∷ []) k first_size size some most zeros = front_two k d e f g (omega arith) (omega arith) zeros a b
two_before (a ∷ b ∷ c ∷ z ∷ []) (d ∷ e ∷ f ∷ g ∷ h ∷ hs) k first_size size some most zeros = no_size (length hs) size
two_before (a ∷ b ∷ c ∷ z ∷ y ∷ ys) more k first_size size some most zeros = no_size (length ys) first_size

pub three_before : (first more : List ℕ) (k : ℕ) → length first ≡ 4 → length more ≡ 4 → 1 ≤ k → 3 + k ≤ 4
    → more ≡ padded 4 (take k more)
    → slice_index first 0 ∷ slice_index first 1 ∷ slice_index first 2 ∷ slice_index more 0 ∷ []
    ≡ padded 4 (take 3 first ++ take k more)
three_before [] more k first_size size some most zeros = absurd (omega arith)
three_before (a ∷ []) more k first_size size some most zeros = absurd (omega arith)
three_before (a ∷ b ∷ []) more k first_size size some most zeros = absurd (omega arith)
three_before (a ∷ b ∷ c ∷ []) more k first_size size some most zeros = absurd (omega arith)
three_before (a ∷ b ∷ c ∷ z ∷ []) [] k first_size size some most zeros = absurd (omega arith)
three_before (a ∷ b ∷ c ∷ z ∷ []) (d ∷ []) k first_size size some most zeros = absurd (omega arith)
three_before (a ∷ b ∷ c ∷ z ∷ []) (d ∷ e ∷ []) k first_size size some most zeros = absurd (omega arith)
three_before (a ∷ b ∷ c ∷ z ∷ []) (d ∷ e ∷ f ∷ []) k first_size size some most zeros = absurd (omega arith)
three_before (a ∷ b ∷ c ∷ z ∷ []) (d ∷ e ∷ f ∷ g ∷ []) k first_size size some most zeros = front_three k d e f g (omega arith) (omega arith) a b c
three_before (a ∷ b ∷ c ∷ z ∷ []) (d ∷ e ∷ f ∷ g ∷ h ∷ hs) k first_size size some most zeros = no_size (length hs) size
three_before (a ∷ b ∷ c ∷ z ∷ y ∷ ys) more k first_size size some most zeros = no_size (length ys) first_size
