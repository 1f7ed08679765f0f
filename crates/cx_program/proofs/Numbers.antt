-- The number that the first bytes of four are.
use Rattle.std.proofs.Common.{◌≡◌, ℕ, zero, suc, ◌+◌, ◌≤◌, List, [], ◌∷◌, length, slice_index, refl, arith}
use Rattle.std.proofs.Common.{w32}
use Rattle.std.specs.Int.{from_le_bytes}
use Rattle.cx_ram.specs.LittleEndian.{loaded}

past : (xs : List ℕ) (i : ℕ) → length xs ≤ i → slice_index xs i ≡ 0
past [] i over = refl
past (x ∷ xs) zero over = absurd (omega (arith, over))
past (x ∷ xs) (suc i) over = past xs i (omega (arith, over))

none_loaded : (xs : List ℕ) (i n : ℕ) → length xs ≤ i → loaded xs i n ≡ 0
unfolding loaded
none_loaded xs i zero over = refl
none_loaded xs i (suc n) over =
    let first : slice_index xs i ≡ 0 = past xs i over in
    let rest : loaded xs (i + 1) n ≡ 0 = none_loaded xs (i + 1) n (omega (arith, over)) in
    rw (first, rest) refl

pub of_none : (bs : List ℕ) → 0 ≡ loaded bs 0 0
unfolding loaded
of_none bs = refl

pub of_one : (bs : List ℕ) → slice_index bs 0 ≡ loaded bs 0 1
unfolding loaded
of_one bs = omega arith

pub of_two : (bs : List ℕ) → from_le_bytes w32 (slice_index bs 0 ∷ slice_index bs 1 ∷ 0 ∷ 0 ∷ []) ≡ loaded bs 0 2
unfolding loaded
of_two bs = omega arith

pub of_three : (bs : List ℕ)
    → from_le_bytes w32 (slice_index bs 0 ∷ slice_index bs 1 ∷ slice_index bs 2 ∷ 0 ∷ []) ≡ loaded bs 0 3
unfolding loaded
of_three bs = omega arith

-- Past four bytes there is nothing more.
pub of_all : (bs : List ℕ) (n : ℕ) → length bs ≡ 4 → 4 ≤ n → from_le_bytes w32 bs ≡ loaded bs 0 n
unfolding loaded
of_all [] n size most = absurd (omega (arith, size))
of_all (a ∷ []) n size most = absurd (omega (arith, size))
of_all (a ∷ b ∷ []) n size most = absurd (omega (arith, size))
of_all (a ∷ b ∷ c ∷ []) n size most = absurd (omega (arith, size))
of_all (a ∷ b ∷ c ∷ d ∷ e ∷ bs) n size most = absurd (omega (arith, size))
of_all (a ∷ b ∷ c ∷ d ∷ []) zero size most = absurd (omega (arith, most))
of_all (a ∷ b ∷ c ∷ d ∷ []) (suc zero) size most = absurd (omega (arith, most))
of_all (a ∷ b ∷ c ∷ d ∷ []) (suc (suc zero)) size most = absurd (omega (arith, most))
of_all (a ∷ b ∷ c ∷ d ∷ []) (suc (suc (suc zero))) size most = absurd (omega (arith, most))
of_all (a ∷ b ∷ c ∷ d ∷ []) (suc (suc (suc (suc n)))) size most =
    let none : loaded (a ∷ b ∷ c ∷ d ∷ []) 4 n ≡ 0 = none_loaded (a ∷ b ∷ c ∷ d ∷ []) 4 n (omega arith) in
    omega (arith, none)
