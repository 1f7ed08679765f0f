-- Words by a mask, or by a flag: their text reads back, and what was read is their text.
use Rattle.std.proofs.Common.{◌≡◌, ℕ, zero, suc, ◌+◌, ◌*◌, ◌/◌, ◌%◌, ◌^◌, ◌<◌, arith, refl, ap, sym}
use Rattle.std.proofs.Common.{List, [], ◌∷◌, ◌++◌, length, Option, None, Some, subst}
use Rattle.std.proofs.Math.Nat.{pow-suc}
use Rattle.std.specs.List.{AllByRecursion}
use Rattle.std.specs.Int.{w32, to_le_bytes}
use Rattle.cx_codec.specs.Again.{Once, ReadsAs}
use Rattle.cx_codec.specs.Fields.{word_at}
use Rattle.cx_codec.specs.Place.{Reader, done, read_on}
use Rattle.cx_codec.proofs.Again.{reads_both, reads_nothing, reads_then, reads_word}
use Rattle.cx_codec.proofs.Once.{part, finish, once_word}
use Rattle.cx_codec.proofs.Texts.{takes_along, takes_both, takes_nothing}
use Rattle.cx_slices.specs.Items.{IsWordOrNone}
use Rattle.cx_slicefmt.specs.Reading.{masked_at, present_at, word_by}
use Rattle.cx_slicefmt.specs.Text.{bit, mask_of, masked_text, present_text, word_text}

-- ---- one word

pub reads_by : (item : Option ℕ) → IsWordOrNone item → ReadsAs (word_by (bit item)) (word_text item) item
reads_by None fits = reads_nothing None
reads_by (Some word) fits = reads_then word_at (λ w. Some w) (to_le_bytes w32 word) word (reads_word word fits)

-- The bit is that of the item.
pub record IsBy (n : ℕ) (item : Option ℕ) : Type 0 where
  pub bit : bit item ≡ n
  pub fits : IsWordOrNone item

pub once_by : (n : ℕ) → n < 2 → Once (word_by n) (IsBy n) word_text
once_by zero small p after are x read =
    finish (IsBy 0) word_text p p after None x read (record { bit = refl; fits = tt }) (takes_nothing p)
once_by (suc n) small p after are x read =
    let one = part word_at (λ w. w < 2 ^ 32) (λ w. to_le_bytes w32 w) (λ w. done (Some w)) once_word p after are x read in
    finish (IsBy (suc n)) word_text p one.mid after (Some one.value) x one.then
    (record { bit = omega (arith, small); fits = one.keeps }) one.takes

-- ---- a mask of any number of bits

bit_small : (item : Option ℕ) → bit item < 2
bit_small None = omega arith
bit_small (Some word) = omega arith

low_bit : (b n : ℕ) → b < 2 → (b + 2 * n) % 2 ≡ b
low_bit b n small = omega (arith, small)

high_bits : (b n : ℕ) → b < 2 → (b + 2 * n) / 2 ≡ n
high_bits b n small = omega (arith, small)

pub reads_present : (is : List (Option ℕ)) → AllByRecursion IsWordOrNone is
    → ReadsAs (present_at (length is) (mask_of is)) (present_text is) is
reads_present [] fit = reads_nothing []
reads_present (i ∷ is) fit =
    let low : (bit i + 2 * mask_of is) % 2 ≡ bit i = low_bit (bit i) (mask_of is) (bit_small i) in
    let high : (bit i + 2 * mask_of is) / 2 ≡ mask_of is = high_bits (bit i) (mask_of is) (bit_small i) in
    rw (low, high) (reads_both (word_by (bit i))
    (λ item. (λ p. read_on (present_at (length is) (mask_of is) p) (λ rest. done (item ∷ rest))))
    (word_text i) (present_text is) i (i ∷ is) (reads_by i fit.0)
    (reads_then (present_at (length is) (mask_of is)) (λ rest. i ∷ rest) (present_text is) is (reads_present is fit.1)))

pub record ArePresent (n mask : ℕ) (is : List (Option ℕ)) : Type 0 where
  pub count : length is ≡ n
  pub bits : mask_of is ≡ mask
  pub fit : AllByRecursion IsWordOrNone is

abbrev with_item : ℕ → ℕ → Option ℕ → Reader (List (Option ℕ))
with_item n mask item p = read_on (present_at n (mask / 2) p) (λ rest. done (item ∷ rest))

pub once_present : (n mask : ℕ) → mask < 2 ^ n → Once (present_at n mask) (ArePresent n mask) present_text
once_present zero mask small p after are x read =
    finish (ArePresent 0 mask) present_text p p after [] x read
    (record { count = refl; bits = let e : mask < 1 = small in omega arith; fit = tt }) (takes_nothing p)
once_present (suc n) mask small p after are x read =
    let first = part (word_by (mask % 2)) (IsBy (mask % 2)) word_text (with_item n mask)
    (once_by (mask % 2) (omega arith)) p after are x read in
    let rest = part (present_at n (mask / 2)) (ArePresent n (mask / 2)) present_text (λ rest. done (first.value ∷ rest))
    (once_present n (mask / 2) (half n mask small)) first.mid after first.bytes x first.then in
    finish (ArePresent (suc n) mask) present_text p rest.mid after (first.value ∷ rest.value) x rest.then
    (record {
      count = omega (arith, rest.keeps.count);
      bits = omega (arith, rest.keeps.bits, first.keeps.bit);
      fit = (first.keeps.fits, rest.keeps.fit);
    }) (takes_both p first.mid rest.mid (word_text first.value) (present_text rest.value) first.takes rest.takes)
  where
    half : (n mask : ℕ) → mask < 2 ^ suc n → mask / 2 < 2 ^ n
    half n mask small = let e : 2 ^ suc n ≡ 2 ^ n * 2 = pow-suc 2 n in omega (arith, small, e)

-- ---- the words of a group

mask_small : (is : List (Option ℕ)) → mask_of is < 2 ^ length is
mask_small [] = omega arith
mask_small (i ∷ is) =
    let e : 2 ^ suc (length is) ≡ 2 ^ length is * 2 = pow-suc 2 (length is) in
    omega (arith, mask_small is, bit_small i, e)

pub record AreMasked (is : List (Option ℕ)) : Type 0 where
  pub count : length is ≡ 32
  pub fit : AllByRecursion IsWordOrNone is

mask_fits : (is : List (Option ℕ)) → length is ≡ 32 → mask_of is < 2 ^ 32
mask_fits is count = subst (λ (n : ℕ). mask_of is < 2 ^ n) count (mask_small is)

reads_present_of : (n : ℕ) (is : List (Option ℕ)) → length is ≡ n → AllByRecursion IsWordOrNone is
    → ReadsAs (present_at n (mask_of is)) (present_text is) is
reads_present_of n is count fit = rw (← count) (reads_present is fit)

pub reads_masked : (is : List (Option ℕ)) → AreMasked is → ReadsAs masked_at (masked_text is) is
unfolding masked_at
reads_masked is masked = reads_both word_at (present_at 32) (to_le_bytes w32 (mask_of is)) (present_text is)
    (mask_of is) is (reads_word (mask_of is) (mask_fits is masked.count))
    (reads_present_of 32 is masked.count masked.fit)

pub once_masked : Once masked_at AreMasked masked_text
unfolding masked_at
once_masked p after are x read =
    let mask = part word_at (λ w. w < 2 ^ 32) (λ w. to_le_bytes w32 w) (present_at 32) once_word p after are x read in
    let there = once_present 32 mask.value mask.keeps mask.mid after mask.bytes x mask.then in (
      record { count = there.0.count; fit = there.0.fit },
      takes_along p after after (to_le_bytes w32 mask.value ++ present_text x) (masked_text x)
          (ap (λ (n : ℕ). to_le_bytes w32 n ++ present_text x) (sym there.0.bits)) refl
          (takes_both p mask.mid after (to_le_bytes w32 mask.value) (present_text x) mask.takes there.1),
    )
