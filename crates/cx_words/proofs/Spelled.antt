-- The digits that are printed of a number spell it.
use Rattle.std.proofs.Common.{◌≡◌, ◌≢◌, ℕ, zero, suc, ◌^◌, ◌+◌, ◌/◌, ◌%◌, ◌<◌, ◌≤◌, Bool, true, false, nat_lt, nat_eq}
use Rattle.std.proofs.Common.{cond, ◌&&◌, List, [], ◌∷◌, ◌++◌, length, get_or, Option, None, Some, codes, refl, arith}
use Rattle.std.proofs.Common.{◌∙◌, ap, sym}
use Rattle.std.specs.List.{starts_with}
use Rattle.std.specs.Fmt.{decimal, digits, digits_onto, digit_glyph}
use Rattle.std.specs.Str.Parse.{AllDigits, IsNumeral, digits_value}
use Rattle.std.proofs.lemmas.Bool.Decides.{nat_tests}
use Rattle.std.proofs.lemmas.Fmt.{decimal_is_IsNumeral, digits_is_IsNumeral, first_decimal, decimal-digits_value}
use Rattle.std.proofs.lemmas.Fmt.{decimal_digit}
use Rattle.std.proofs.lemmas.Str.Parse.{numerals_by_value, tells_digits as std_tells_digits}
use Rattle.std.proofs.Math.Nat.{div-lt_iff_lt-mul, pow-suc, pow-zero}
use borrow.Author.Tests.{ltb-true, le-leb, eqb-false}
use Rattle.cx_words.specs.Number.{number, number_in, is_numeral}
use Rattle.cx_words.proofs.Digits.{tells_numeral}

if_some : (b : Bool) (m n : ℕ) → cond b (Some m) None ≡ Some n → (b ≡ true) × (m ≡ n)
if_some true m n e = (refl, cc)
if_some false m n e = cc

else_some : (b : Bool) (r : Option ℕ) (n : ℕ) → cond b None r ≡ Some n → (b ≡ false) × (r ≡ Some n)
else_some true r n e = cc
else_some false r n e = (refl, e)

and_true : (a b : Bool) → (a && b) ≡ true → (a ≡ true) × (b ≡ true)
and_true true b e = (refl, e)
and_true false b e = cc

-- a numeral of a number that fits is read
pub numeral_reads : (base : ℕ) (text : List ℕ) (n : ℕ) → IsNumeral base text → digits_value base text ≡ n → n < 2 ^ 64
    → number_in base text ≡ Some n
numeral_reads base text n numeral value small =
    let test = (tells_numeral base text).1 numeral in
    grind (arith, nat_tests)

-- decimal digits don't begin with `0x`
pub not_hexadecimal : (text : List ℕ) → AllDigits 10 text → starts_with nat_eq text (codes "0x") ≡ false
not_hexadecimal [] each = refl
not_hexadecimal (a ∷ []) each = grind (arith, nat_tests)
not_hexadecimal (a ∷ b ∷ rest) each = grind (arith, nat_tests)

no_leading_zero : (text : List ℕ) → (1 < length text → get_or text 0 0 ≢ 48)
    → (nat_lt 1 (length text) && starts_with nat_eq text (codes "0")) ≡ false
no_leading_zero [] lead = refl
no_leading_zero (a ∷ []) lead = refl
no_leading_zero (a ∷ b ∷ rest) lead = let ne : a ≢ 48 = lead (omega arith) in grind (arith, nat_tests)

-- a decimal numeral with no leading zero is read
pub decimal_numeral_reads : (text : List ℕ) (n : ℕ) → IsNumeral 10 text → digits_value 10 text ≡ n → n < 2 ^ 64
    → (1 < length text → get_or text 0 0 ≢ 48) → number text ≡ Some n
decimal_numeral_reads text n numeral value small lead =
    rw (not_hexadecimal text numeral.1, no_leading_zero text lead) (numeral_reads 10 text n numeral value small)

decimal_leads : (n : ℕ) → n < 2 ^ 64 → 1 < length (decimal n) → get_or (decimal n) 0 0 ≢ 48
decimal_leads zero small long = let one = decimal_digit 0 (omega arith) in absurd (omega (arith, ap length one))
decimal_leads (suc n) small long = let first = first_decimal (suc n) (omega arith) small in omega arith

pub decimal_reads : (n : ℕ) → n < 2 ^ 64 → number (decimal n) ≡ Some n
decimal_reads n small =
    let numeral = decimal_is_IsNumeral n small in
    decimal_numeral_reads (decimal n) n numeral.0 numeral.1 small (decimal_leads n small)

either_fits : (b : Bool) (xs ys : List ℕ) (m : ℕ) → (b ≡ true → length xs ≤ m) → (b ≡ false → length ys ≤ m)
    → length (cond b xs ys) ≤ m
either_fits true xs ys m first second = first refl
either_fits false xs ys m first second = second refl

some_left : (j m : ℕ) → m < 16 ^ j → (m ≡ 0 → ⊥) → 0 < j
some_left zero m small some = absurd (some (omega (arith, pow-zero 16)))
some_left (suc j) m small some = omega arith

-- a number below 16 ^ j has j hexadecimal digits at most
digits_fit : (k j : ℕ) (upper : Bool) (n : ℕ) (after : List ℕ) → 0 < j → n < 16 ^ j
    → length (digits_onto k 16 upper n after) ≤ j + length after
digits_fit zero j upper n after some small = omega arith
digits_fit (suc k) zero upper n after some small = absurd (omega arith)
digits_fit (suc k) (suc j) upper n after some small =
    let first = digit_glyph upper (n % 16) ∷ after in
    either_fits (nat_eq (n / 16) 0) first (digits_onto k 16 upper (n / 16) first) (suc j + length after)
    (λ last. omega arith)
    (λ more.
    let below : n / 16 < 16 ^ j = (div-lt_iff_lt-mul (omega arith)).1 (omega (arith, pow-suc 16 j)) in
    let left = some_left j (n / 16) below (eqb-false (n / 16) 0 more) in
    let rest = digits_fit k j upper (n / 16) first left below in omega arith)

-- `0x` and digits that aren't too many read as the digits
pub hexadecimal_numeral_reads : (ds : List ℕ) (n : ℕ) → length ds ≤ 16 → number_in 16 ds ≡ Some n
    → number (codes "0x" ++ ds) ≡ Some n
hexadecimal_numeral_reads ds n few read = rw (le-leb (length ds) 16 few) read

pub hexadecimal_reads : (upper : Bool) (n : ℕ) → n < 2 ^ 64 → number (codes "0x" ++ digits 16 upper n) ≡ Some n
unfolding digits
hexadecimal_reads upper n small =
    let numeral = digits_is_IsNumeral 16 upper (omega arith) (omega arith) n (omega arith) in
    let few = digits_fit 64 16 upper n [] (omega arith) (omega arith) in
    hexadecimal_numeral_reads (digits 16 upper n) n (omega arith) (numeral_reads 16 (digits 16 upper n) n numeral.0
    numeral.1 small)

-- what is read as a numeral is one
pub is_numeral_from_read : (base : ℕ) (text : List ℕ) (n : ℕ) → number_in base text ≡ Some n → IsNumeral base text
    × (digits_value base text ≡ n) × (n < 2 ^ 64)
is_numeral_from_read base text n read =
    let chosen = if_some (is_numeral base text && nat_lt (digits_value base text) (2 ^ 64)) (digits_value base text) n
    read in
    let tests = and_true (is_numeral base text) (nat_lt (digits_value base text) (2 ^ 64)) chosen.0 in
    let fits : digits_value base text < 2 ^ 64 = ltb-true _ _ tests.1 in
    ((tells_numeral base text).0 tests.0, chosen.1, omega arith)

lone_zero : (text : List ℕ) → 0 < length text → (nat_lt 1 (length text) && starts_with nat_eq text (codes "0")) ≡ false
    → get_or text 0 0 ≡ 48 → length text ≡ 1
lone_zero [] some lead zero_first = absurd (omega arith)
lone_zero (a ∷ []) some lead zero_first = refl
lone_zero (a ∷ b ∷ rest) some lead zero_first = absurd (grind (arith, nat_tests))

pub decimal_alone : (text : List ℕ) (n : ℕ) → number text ≡ Some n → starts_with nat_eq text (codes "0x") ≡ false
    → text ≡ decimal n
decimal_alone text n read plain =
    let whole = rw plain at read in
    let chosen = else_some (nat_lt 1 (length text) && starts_with nat_eq text (codes "0")) (number_in 10 text) n whole
    in
    let numeral = is_numeral_from_read 10 text n chosen.1 in
    let lead = lone_zero text numeral.0.0 chosen.0 in
    let back = decimal-digits_value (numerals_by_value _ std_tells_digits) text numeral.0.1 numeral.0.0 lead
    (omega arith) in
    sym back ∙ ap decimal numeral.1
