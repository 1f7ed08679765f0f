-- Bytes, element by element.
use Rattle.std.proofs.Common.{ℕ, ◌<◌, List, ◌++◌, length, take, drop, replicate, All, inl, inr, arith}
use Rattle.std.proofs.lemmas.Bool.{cases_lt}
use Rattle.std.proofs.lemmas.List.{get_or_past}
use Rattle.std.proofs.lemmas.List.Elements.{All-append, All-drop, All-from_get_or, All-replicate, All-take}
use Rattle.cx_map.specs.Bytes.{AreBytes}

pub AreBytes-all : (xs : List ℕ) → AreBytes xs → All (λ b. b < 256) xs
AreBytes-all xs bytes = All-from_get_or (λ b. b < 256) xs 0 (λ i here. bytes i)

pub all-AreBytes : (xs : List ℕ) → All (λ b. b < 256) xs → AreBytes xs
all-AreBytes xs all i =
    elim (cases_lt i (length xs)) [
      | inl here ↦ all i 0 here
      | inr past ↦ let none = get_or_past xs i 0 past in
          omega arith
    ]

pub AreBytes-append : (xs ys : List ℕ) → AreBytes xs → AreBytes ys → AreBytes (xs ++ ys)
AreBytes-append xs ys left right =
    all-AreBytes (xs ++ ys) (All-append (λ b. b < 256) xs ys (AreBytes-all xs left) (AreBytes-all ys right))

pub AreBytes-take : (n : ℕ) (xs : List ℕ) → AreBytes xs → AreBytes (take n xs)
AreBytes-take n xs bytes = all-AreBytes (take n xs) (All-take (λ b. b < 256) n xs (AreBytes-all xs bytes))

pub AreBytes-drop : (n : ℕ) (xs : List ℕ) → AreBytes xs → AreBytes (drop n xs)
AreBytes-drop n xs bytes = all-AreBytes (drop n xs) (All-drop (λ b. b < 256) n xs (AreBytes-all xs bytes))

pub AreBytes-zeros : (n : ℕ) → AreBytes (replicate n 0)
AreBytes-zeros n = all-AreBytes (replicate n 0) (All-replicate (λ b. b < 256) n 0 (omega arith))
