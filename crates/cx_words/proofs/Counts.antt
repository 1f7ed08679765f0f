-- Arguments in a number that a command doesn't take.
use Rattle.std.proofs.Common.{◌≡◌, ℕ, ◌<◌, ◌≤◌, List, [], ◌∷◌, length, None, refl, arith}
use Rattle.cx_words.specs.Arguments.{two_numbers}
use Rattle.cx_words.specs.Parse.{record_of}

pub two_numbers_fewer : (texts : List (List ℕ)) → length texts < 2 → two_numbers texts ≡ None
unfolding two_numbers
two_numbers_fewer [] few = refl
two_numbers_fewer (a ∷ []) few = refl
two_numbers_fewer (a ∷ b ∷ rest) few = absurd (omega arith)

pub two_numbers_more : (texts : List (List ℕ)) → 3 ≤ length texts → two_numbers texts ≡ None
unfolding two_numbers
two_numbers_more [] many = refl
two_numbers_more (a ∷ []) many = refl
two_numbers_more (a ∷ b ∷ []) many = absurd (omega arith)
two_numbers_more (a ∷ b ∷ c ∷ rest) many = refl

pub record_of_more : (texts : List (List ℕ)) → 3 ≤ length texts → record_of texts ≡ None
unfolding record_of
record_of_more [] many = refl
record_of_more (a ∷ []) many = absurd (omega arith)
record_of_more (a ∷ b ∷ []) many = absurd (omega arith)
record_of_more (a ∷ b ∷ c ∷ rest) many = refl
