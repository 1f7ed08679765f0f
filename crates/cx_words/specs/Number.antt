-- How a text spells a number.
use Rattle.std.specs.Prelude.{ℕ, ◌^◌, Bool, ◌&&◌, nat_eq, nat_lt, nat_le, if◌then◌else◌, List, length, drop, Option}
use Rattle.std.specs.Prelude.{None, Some, codes}
use Rattle.std.specs.List.{list_all, starts_with}
use Rattle.std.specs.Char.{is_digit}
use Rattle.std.specs.Str.Parse.{digits_value}

-- One digit of the base or more, and nothing else: '0' to '9', and from ten on letters of either case.
abbrev pub is_numeral : ℕ → List ℕ → Bool
is_numeral base text = nat_lt 0 (length text) && list_all (λ c. is_digit c base) text

-- The number that the digits of the base write, where it is below 2^64.
abbrev pub number_in : ℕ → List ℕ → Option ℕ
number_in base text =
    if is_numeral base text && nat_lt (digits_value base text) (2 ^ 64) then Some (digits_value base text) else None

-- Decimal without leading zeros; zero itself is one digit.
abbrev pub decimal_number : List ℕ → Option ℕ
decimal_number text =
    if nat_lt 1 (length text) && starts_with nat_eq text (codes "0") then None else number_in 10 text

-- What follows `0x`: one to sixteen hexadecimal digits.
abbrev pub hexadecimal_number : List ℕ → Option ℕ
hexadecimal_number digits = if nat_le (length digits) 16 then number_in 16 digits else None

-- The number that the text spells, as a whole.
abbrev pub number : List ℕ → Option ℕ
number text =
    if starts_with nat_eq text (codes "0x") then hexadecimal_number (drop 2 text) else decimal_number text
