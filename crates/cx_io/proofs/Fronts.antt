-- What a read moves from the front of the bytes that are left to the front of a buffer.
use Rattle.std.proofs.Common.{
  ◌≡◌,
  ℕ,
  ◌+◌,
  ◌-◌,
  ◌≤◌,
  List,
  ◌++◌,
  length,
  take,
  drop,
  sym,
  ap,
  subst,
  ◌∙◌,
  arith,
  length-take,
  length-drop,
}
use Rattle.std.proofs.Math.Seq.{take-append_seam, take-add}
use Rattle.std.proofs.lemmas.List.{take-append-drop, drop-drop}

take-of_front : (front rest : List ℕ) (n : ℕ) → length front ≡ n → take n (front ++ rest) ≡ front
take-of_front front rest n e = subst (λ m. take m (front ++ rest) ≡ front) e (take-append_seam front rest)

-- the n bytes that lie in front of the buffer's rest
moved : (xs rest : List ℕ) (at n : ℕ) → at + n ≤ length xs → take n (take ((at + n) - at) (drop at xs) ++ rest) ≡ take n
    (drop at xs)
moved xs rest at n within =
    let same : (at + n) - at ≡ n = omega arith in
    let whole : length (take n (drop at xs)) ≡ n = omega (arith, length-take n (drop at xs), length-drop at xs) in
    rw same (take-of_front (take n (drop at xs)) rest n whole)

pub drop-moved : (xs rest : List ℕ) (at n : ℕ) → at + n ≤ length xs
    → drop at xs ≡ take n (take ((at + n) - at) (drop at xs) ++ rest) ++ drop (at + n) xs
drop-moved xs rest at n within =
    sym (ap (λ (front : List ℕ). front ++ drop (at + n) xs) (moved xs rest at n within)
    ∙ rw (← drop-drop n at xs) (take-append-drop n (drop at xs)))

pub take-moved : (xs rest : List ℕ) (at n : ℕ) → at + n ≤ length xs
    → take (at + n) xs ≡ take at xs ++ take n (take ((at + n) - at) (drop at xs) ++ rest)
take-moved xs rest at n within = take-add at n xs
    ∙ ap (λ (front : List ℕ). take at xs ++ front) (sym (moved xs rest at n within))
