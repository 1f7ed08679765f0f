-- What std reads as a number, in the words of the specification.
use Rattle.std.proofs.Common.{◌≡◌, ◌≢◌, ℕ, List, [], ◌∷◌, get_or, Result, Ok, Err, arith, rules}
use Rattle.std.specs.Result.{result_ok}
use Rattle.std.specs.List.{list_all}
use Rattle.std.specs.Char.{is_digit}
use Rattle.std.specs.Str.Parse.{ParsesUnsigned, AllDigits, IsNumeral}
use Rattle.std.specs.Bool.{Decides}
use Rattle.std.proofs.lemmas.Bool.Decides.{nat_tests}
use Rattle.std.proofs.lemmas.Str.Parse.{without_leading_plus_none}
use Rattle.cx_words.specs.Number.{number_in, is_numeral}

-- the test of each digit decides what std says of them
pub tells_digits : (base : ℕ) (text : List ℕ) → Decides (list_all (λ c. is_digit c base) text) (AllDigits base text)
tells_digits base [] = search rules
tells_digits base (c ∷ cs) = let rest = tells_digits base cs in grind (arith, nat_tests)

pub tells_numeral : (base : ℕ) (text : List ℕ) → Decides (is_numeral base text) (IsNumeral base text)
tells_numeral base text = let each = tells_digits base text in grind (arith, nat_tests)

-- a text that doesn't begin with a plus is read as its digits
pub read_as_digits : {E : Type 0} (base : ℕ) (text : List ℕ) (r : Result ℕ E) → ParsesUnsigned 64 base text r
    → get_or text 0 0 ≢ 43 → result_ok r ≡ number_in base text
read_as_digits base text (Ok n) read plain =
    let same = without_leading_plus_none text plain in
    let there = rw same at read in
    let numeral = (tells_numeral base text).1 there.0.0 in
    grind (arith, nat_tests)
read_as_digits base text (Err e) read plain =
    let same = without_leading_plus_none text plain in
    let none = rw same at read in
    let numeral = (tells_numeral base text).0 in
    grind (arith, nat_tests)
