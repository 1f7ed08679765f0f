-- The queries of the words, one after another.
use Rattle.std.proofs.Common.{◌≡◌, ℕ, suc, ◌+◌, List, [], ◌∷◌, ◌++◌, take, slice_get, Some, arith, ap, sym, ◌∙◌}
use Rattle.std.proofs.Math.Seq.{take-suc}
use Rattle.std.proofs.lemmas.Option.{get_or_from_slice_get, slice_get_within}

pub query_more : {X : Type 0} (xs : List X) (i : ℕ) (x : X) → slice_get xs i ≡ Some x
    → take i xs ++ x ∷ [] ≡ take (i + 1) xs
query_more {X} xs i x is =
    let next : suc i ≡ i + 1 = omega arith in
    ap (λ (y : X). take i xs ++ y ∷ []) (sym (get_or_from_slice_get xs i x x is))
    ∙ sym (take-suc xs i x (slice_get_within xs i x is)) ∙ ap (λ (n : ℕ). take n xs) next
