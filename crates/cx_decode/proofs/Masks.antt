-- What a word has under the masks of the instruction table: a sum of its fields.
use Rattle.std.proofs.Common.{◌≡◌, ℕ, ◌+◌, ◌-◌, ◌*◌, ◌/◌, ◌%◌, ◌^◌, ◌<◌, Bool, true, false, List, [], ◌∷◌, bit_and}
use Rattle.std.proofs.Common.{refl, ◌∙◌, arith}
use Rattle.std.proofs.Math.Nat.{mod-eq_of_lt}
use Rattle.std.proofs.lemmas.Nat.{and_block, and_mask, shr_split, pow_pos}
use Rattle.std.specs.Int.Bits.{and_zero_r}

-- A run of bits, from the lowest up: how many, and whether the mask has them.
abbrev pub Runs : Type 0
Runs = List (ℕ × Bool)

abbrev pub mask_of : Runs → ℕ
mask_of [] = 0
mask_of ((n, true) ∷ runs) = mask_of runs * 2 ^ n + (2 ^ n - 1)
mask_of ((n, false) ∷ runs) = mask_of runs * 2 ^ n + 0

-- The bits of a word in those runs.
abbrev pub kept : Runs → ℕ → ℕ
kept [] word = 0
kept ((n, true) ∷ runs) word = kept runs (word / 2 ^ n) * 2 ^ n + word % 2 ^ n
kept ((n, false) ∷ runs) word = kept runs (word / 2 ^ n) * 2 ^ n + 0

split_at : (n word mask low : ℕ) → low < 2 ^ n → bit_and word (mask * 2 ^ n + low) ≡ bit_and (word / 2 ^ n) mask * 2 ^ n
    + bit_and (word % 2 ^ n) low
split_at n word mask low small =
    let positive : 0 < 2 ^ n = pow_pos n in
    let rest : word % 2 ^ n < 2 ^ n = omega arith in
    rw shr_split at (and_block n (word / 2 ^ n) mask (word % 2 ^ n) low rest small)

pub and_runs : (runs : Runs) (word : ℕ) → bit_and word (mask_of runs) ≡ kept runs word
and_runs [] word = and_zero_r word
and_runs ((n, true) ∷ runs) word =
    let positive : 0 < 2 ^ n = pow_pos n in
    let rest : word % 2 ^ n < 2 ^ n = omega arith in
    let small : 2 ^ n - 1 < 2 ^ n = omega arith in
    split_at n word (mask_of runs) (2 ^ n - 1) small
    ∙ rw (and_runs runs (word / 2 ^ n), and_mask (word % 2 ^ n) n, mod-eq_of_lt rest) refl
and_runs ((n, false) ∷ runs) word =
    split_at n word (mask_of runs) 0 (pow_pos n)
    ∙ rw (and_runs runs (word / 2 ^ n), and_zero_r (word % 2 ^ n)) refl

-- ---- the masks of the table

pub and_7f : (word : ℕ) → bit_and word 0x7f ≡ word % 2 ^ 7
and_7f word = omega (arith, and_runs ((7, true) ∷ []) word)

pub and_707f : (word : ℕ) → bit_and word 0x707f ≡ word / 2 ^ 12 % 2 ^ 3 * 2 ^ 12 + word % 2 ^ 7
and_707f word = omega (arith, and_runs ((7, true) ∷ (5, false) ∷ (3, true) ∷ []) word)

pub and_fe00707f : (word : ℕ) → bit_and word 0xfe00707f ≡ word / 2 ^ 25 % 2 ^ 7 * 2 ^ 25 + word / 2 ^ 12 % 2 ^ 3 * 2 ^
    12 + word % 2 ^ 7
and_fe00707f word = omega (arith, and_runs ((7, true) ∷ (5, false) ∷ (3, true) ∷ (10, false) ∷ (7, true) ∷ []) word)

pub and_f800707f : (word : ℕ) → bit_and word 0xf800707f ≡ word / 2 ^ 27 % 2 ^ 5 * 2 ^ 27 + word / 2 ^ 12 % 2 ^ 3 * 2 ^
    12 + word % 2 ^ 7
and_f800707f word = omega (arith, and_runs ((7, true) ∷ (5, false) ∷ (3, true) ∷ (12, false) ∷ (5, true) ∷ []) word)

pub and_f9f0707f : (word : ℕ) → bit_and word 0xf9f0707f ≡ word / 2 ^ 27 % 2 ^ 5 * 2 ^ 27 + word / 2 ^ 20 % 2 ^ 5 * 2 ^
    20 + word / 2 ^ 12 % 2 ^ 3 * 2 ^ 12 + word % 2 ^ 7
and_f9f0707f word = omega (
  arith,
  and_runs ((7, true) ∷ (5, false) ∷ (3, true) ∷ (5, false) ∷ (5, true) ∷ (2, false)
      ∷ (5, true) ∷ []) word,
)

pub and_fe007fff : (word : ℕ) → bit_and word 0xfe007fff ≡ word / 2 ^ 25 % 2 ^ 7 * 2 ^ 25 + word % 2 ^ 15
and_fe007fff word = omega (arith, and_runs ((15, true) ∷ (10, false) ∷ (7, true) ∷ []) word)

pub and_ffffffff : (word : ℕ) → bit_and word 0xffffffff ≡ word % 2 ^ 32
and_ffffffff word = omega (arith, and_runs ((32, true) ∷ []) word)

pub ruleset masks = (and_7f, and_707f, and_fe00707f, and_f800707f, and_f9f0707f, and_fe007fff, and_ffffffff)
