-- Parts of lists of numbers.
use Rattle.std.proofs.Common.{◌≡◌, ℕ, List, [], ◌∷◌, ◌++◌, length, take, refl, ap}
use Rattle.std.specs.Prelude.{slice_index}

pub take_front : (xs ys : List ℕ) → take (length xs) (xs ++ ys) ≡ xs
take_front [] ys = refl
take_front (x ∷ xs) ys = ap (λ l. x ∷ l) (take_front xs ys)

-- the places that a walk reads
pub take_one : (xs : List ℕ) → length xs ≡ 2 → take 1 xs ≡ slice_index xs 0 ∷ []
take_one [] e = cc
take_one (x ∷ xs) e = refl

pub take_two : (xs : List ℕ) → length xs ≡ 2 → take 2 xs ≡ slice_index xs 0 ∷ slice_index xs 1 ∷ []
take_two [] e = cc
take_two (x ∷ []) e = cc
take_two (x ∷ y ∷ xs) e = refl
