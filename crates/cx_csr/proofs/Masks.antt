-- Masks, bit by bit.
use Rattle.std.proofs.Common.{◌≡◌, ℕ, zero, suc, ◌-◌, ◌^◌, ◌<◌, ◌≤◌, min, max, bit_and, refl, sym, ap, ◌∙◌, arith, w32}
use Rattle.std.specs.Int.{bit_at}
use Rattle.std.proofs.lemmas.Nat.{and_le_r}
use Rattle.std.proofs.lemmas.Nat.Bits.{bit_at_and, bit_at_or, bit_at_not, bit_at-lt, bit_at-zero, same_from_bits}
use Rattle.std.proofs.lemmas.Nat.Bits.{same_from_bits_below}
use Rattle.cx_csr.specs.Bits.{with_bits}
use Rattle.cx_csr.specs.Rules.{IsWithin}

pub within_at : (mask word i : ℕ) → IsWithin mask word → bit_at word i ≤ bit_at mask i
within_at mask word i within =
    let both : bit_at word i ≡ min (bit_at word i) (bit_at mask i) = sym (ap (λ (n : ℕ). bit_at n i) within)
    ∙ bit_at_and word mask i in
    omega arith

pub within_from_bits : (mask word : ℕ) → ((i : ℕ) → bit_at word i ≤ bit_at mask i) → IsWithin mask word
within_from_bits mask word below =
    same_from_bits (bit_and word mask) word (λ i. bit_at_and word mask i ∙ (let h = below i in omega arith))

pub within-and : (value mask : ℕ) → IsWithin mask (bit_and value mask)
within-and value mask =
    within_from_bits mask (bit_and value mask) (λ i. let h = bit_at_and value mask i in omega arith)

pub within-with_bits : (all mask value word : ℕ) → IsWithin all mask → IsWithin all word
    → IsWithin all (with_bits mask value word)
within-with_bits all mask value word mask_within word_within =
    within_from_bits all (with_bits mask value word) (λ i.
    let either = bit_at_or (bit_and word (2 ^ 32 - 1 - mask)) (bit_and value mask) i in
    let kept = bit_at_and word (2 ^ 32 - 1 - mask) i in
    let taken = bit_at_and value mask i in
    let m = within_at all mask i mask_within in
    let w = within_at all word i word_within in
    omega arith)

-- one bit of with_bits: of the value under the mask, else of the word
chosen_bit : (m v w n : ℕ) → m < 2 → v < 2 → w < 2 → n ≡ 1 - m → (m ≡ 1 → max (min w n) (min v m) ≡ v)
    × (m ≡ 0 → max (min w n) (min v m) ≡ w)
chosen_bit m v w n h i j e = (λ one. omega arith, λ none. omega arith)

bit_at-with_bits : (mask value word i : ℕ) → mask < 2 ^ 32 → i < 32
    → (bit_at mask i ≡ 1 → bit_at (with_bits mask value word) i ≡ bit_at value i)
    × (bit_at mask i ≡ 0 → bit_at (with_bits mask value word) i ≡ bit_at word i)
bit_at-with_bits mask value word i small h =
    let e : bit_at (with_bits mask value word) i ≡ max (min (bit_at word i) (bit_at (2 ^ 32 - 1 - mask) i))
    (min (bit_at value i) (bit_at mask i)) =
    rw (bit_at_or, bit_at_and, bit_at_and) refl in
    let chosen = chosen_bit (bit_at mask i) (bit_at value i) (bit_at word i) (bit_at (2 ^ 32 - 1 - mask) i)
    (bit_at-lt mask i) (bit_at-lt value i) (bit_at-lt word i) (bit_at_not w32 mask i small h) in
    (λ one. e ∙ chosen.0 one, λ none. e ∙ chosen.1 none)

-- the part of a word under a mask, bit by bit
same_under : (part a b : ℕ) → part < 2 ^ 32 → ((i : ℕ) → i < 32 → bit_at part i ≡ 1 → bit_at a i ≡ bit_at b i)
    → bit_and a part ≡ bit_and b part
same_under part a b small same =
    same_from_bits_below 32 (bit_and a part) (bit_and b part) (omega (arith, and_le_r a part))
    (omega (arith, and_le_r b part)) (λ i h.
    bit_at_and a part i ∙ min_same (bit_at part i) (bit_at a i) (bit_at b i) (bit_at-lt part i) (bit_at-lt a i)
    (bit_at-lt b i) (same i h) ∙ sym (bit_at_and b part i))
  where
    min_same : (p x y : ℕ) → p < 2 → x < 2 → y < 2 → (p ≡ 1 → x ≡ y) → min x p ≡ min y p
    min_same zero x y h i j e = omega arith
    min_same (suc p) x y h i j e = ap (λ (n : ℕ). min n (suc p)) (e (omega arith))

pub and-with_bits_inside : (part mask value word : ℕ) → mask < 2 ^ 32 → IsWithin mask part
    → bit_and (with_bits mask value word) part ≡ bit_and value part
and-with_bits_inside part mask value word small within =
    let part_small : part < 2 ^ 32 = omega (arith, and_le_r part mask, within) in
    same_under part (with_bits mask value word) value part_small (λ i h one.
    let below = within_at mask part i within in
    let most = bit_at-lt mask i in
    (bit_at-with_bits mask value word i small h).0 (omega arith))

pub and-with_bits_apart : (part mask value word : ℕ) → mask < 2 ^ 32 → part < 2 ^ 32 → bit_and mask part ≡ 0
    → bit_and (with_bits mask value word) part ≡ bit_and word part
and-with_bits_apart part mask value word small part_small apart =
    same_under part (with_bits mask value word) word part_small (λ i h one.
    let none : bit_at (bit_and mask part) i ≡ bit_at 0 i = ap (λ (n : ℕ). bit_at n i) apart in
    let both = bit_at_and mask part i in
    let most = bit_at-lt mask i in
    (bit_at-with_bits mask value word i small h).1 (omega (arith, bit_at-zero i)))
