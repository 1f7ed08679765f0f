-- How many decimal digits a number of 64 bits has, and which is the last.
use Rattle.std.proofs.Common.{◌≡◌, ℕ, ◌+◌, ◌/◌, ◌%◌, ◌^◌, ◌<◌, ◌≤◌, List, [], ◌∷◌, ◌++◌, length, drop, set, arith, ap}
use Rattle.std.proofs.Common.{◌∙◌}
use Rattle.std.specs.Fmt.{decimal}
use Rattle.std.proofs.lemmas.List.{length-append}
use Rattle.std.proofs.lemmas.Fmt.{decimal_step, decimal_digit, decimal_nonempty, length-decimal-le}
use Rattle.std.proofs.lemmas.Grind.{common_steps}

pub decimal_fits : (n : ℕ) → n < 2 ^ 64 → length (decimal n) ≤ 20
decimal_fits n small = length-decimal-le 20 n (omega arith) (omega arith) small

pub some_digit : (n : ℕ) → n < 2 ^ 64 → 1 ≤ length (decimal n)
some_digit n small = omega (arith, decimal_nonempty n small)

-- the last digit follows those of the tenth part
pub last_digit : (n : ℕ) → 10 ≤ n → n < 2 ^ 64 → decimal n ≡ decimal (n / 10) ++ ((48 + n % 10) ∷ [])
last_digit = decimal_step

pub one_more_digit : (n : ℕ) → 10 ≤ n → n < 2 ^ 64 → length (decimal n) ≡ length (decimal (n / 10)) + 1
one_more_digit n many small =
    ap length (decimal_step n many small) ∙ length-append (decimal (n / 10)) ((48 + n % 10) ∷ [])

pub one_digit : (n : ℕ) → n < 10 → decimal n ≡ (48 + n) ∷ []
one_digit = decimal_digit

-- what is put in front of a rest
pub put_in_front : (xs : List ℕ) (i d : ℕ) → i < length xs → drop i (set xs i d) ≡ d ∷ drop (i + 1) xs
put_in_front xs i d inside = grind (arith, common_steps)

pub decimal_of_byte : (n : ℕ) → n < 2 ^ 8 → length (decimal n) ≤ 3
decimal_of_byte n small = length-decimal-le 3 n (omega arith) (omega arith) (omega arith)

pub decimal_of_word : (n : ℕ) → n < 2 ^ 32 → length (decimal n) ≤ 10
decimal_of_word n small = length-decimal-le 10 n (omega arith) (omega arith) (omega arith)

pub ruleset spelled = (last_digit, one_more_digit, one_digit, decimal_fits, some_digit, put_in_front, common_steps)
