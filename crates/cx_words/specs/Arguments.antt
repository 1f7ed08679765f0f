-- What stands behind the name of a command: so many arguments, each a number within its bounds.
use Rattle.std.specs.Prelude.{ℕ, ◌^◌, ◌&&◌, nat_lt, nat_le, List, [], ◌∷◌, Option, None}
use Rattle.std.specs.Bool.{then_some}
use Rattle.std.specs.Option.{option_and_then, option_zip}
use Rattle.cx_words.specs.Number.{number}

-- A number below 2^32: a root, a place, or which workload.
unfoldable pub word_number : List ℕ → Option ℕ
word_number text = option_and_then (λ n. then_some (nat_lt n (2 ^ 32)) n) (number text)

-- How many steps are recorded: 1 to 2^27.
unfoldable pub step_count : List ℕ → Option ℕ
step_count text = option_and_then (λ n. then_some (nat_le 1 n && nat_le n (2 ^ 27)) n) (number text)

-- One number below 2^32.
unfoldable pub one_word : List (List ℕ) → Option ℕ
one_word (text ∷ []) = word_number text
one_word _ = None

-- Two numbers.
unfoldable pub two_numbers : List (List ℕ) → Option (ℕ × ℕ)
two_numbers (first ∷ second ∷ []) = option_zip (number first) (number second)
two_numbers _ = None
