-- A vector that was lent as a slice and comes back.
use Rattle.std.proofs.Common.{◌≡◌, ℕ, List, ◌++◌, length, take, drop, arith, append-nil, ◌∙◌, ap}
use Rattle.std.proofs.lemmas.List.{drop_all, take_all}

pub comes_back : (len : ℕ) (xs ys : List ℕ) → length xs ≡ length ys → length ys ≡ len
    → take len (xs ++ drop (length xs) ys) ≡ xs
comes_back len xs ys same size =
    ap (λ (rest : List ℕ). take len (xs ++ rest)) (drop_all (length xs) ys (omega (arith, same)))
    ∙ ap (take len) (append-nil xs) ∙ take_all len xs (omega (arith, same, size))
