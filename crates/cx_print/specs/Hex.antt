-- Numbers in hexadecimal, in lower case.
use Rattle.std.specs.Prelude.{ℕ, zero, suc, ◌/◌, ◌%◌, ◌^◌, List, [], ◌∷◌, slice_index, codes}

-- the lowest digit of a number
abbrev pub hex_digit : ℕ → ℕ
hex_digit n = slice_index (codes "0123456789abcdef") (n % 16)

-- so many low digits of a number, the lowest last
unfoldable pub hex : ℕ → ℕ → List ℕ
hex zero n = []
hex (suc count) n = hex_digit (n / 16 ^ count) ∷ hex count n
