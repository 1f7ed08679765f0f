-- A list of bytes that ascends is the sorted one, where it has the same bytes and no two are at one address.
use Rattle.std.proofs.Common.{◌≡◌, ℕ, zero, suc, ◌+◌, ◌≤◌, ◌<◌, ◌==◌, Bool, true, false, ◌⊎◌, inl, inr, List, [], ◌∷◌, length}
use Rattle.std.proofs.Common.{Option, None, Some, if◌then◌else◌, IsPermutation, slice_index_or, sum_by, refl, sym, ap, ◌∙◌}
use Rattle.std.proofs.Common.{arith, eq-eqb}
use Rattle.std.proofs.lemmas.Bool.{cases_eq, eqb-true}
use Rattle.std.proofs.lemmas.List.Sorted.{sum_by-IsPermutation}
use Rattle.std.proofs.lemmas.List.Sums.{sum_by-cons}
use Rattle.std.specs.List.Sorted.{IsNonDecreasingBy}
use Rattle.cx_placing.specs.Gathering.{AreApart}
use Rattle.cx_slices.proofs.Bytes.{BytesRise-sorted, byte_found-here, byte_found-other, byte_found-sorted, rising_lists_are_one}
use Rattle.cx_slices.proofs.Small.{none_is_some, same_suc, strictly}
use Rattle.cx_slices.specs.Bytes.{Byte, BytesRise, byte_found, sorted}

-- ---- a byte at an address as a number, so that it can be summed up

abbrev one_at : ℕ → Byte → ℕ
one_at a e = if e.0 == a then 1 else 0

abbrev byte_at : ℕ → Byte → ℕ
byte_at a e = if e.0 == a then suc e.1 else 0

abbrev number_of : Option ℕ → ℕ
number_of None = 0
number_of (Some b) = suc b

same_number : (x y : Option ℕ) → number_of x ≡ number_of y → x ≡ y
same_number None None is = refl
same_number None (Some b) is = cc
same_number (Some b) None is = cc
same_number (Some b) (Some c) is = ap (λ (n : ℕ). Some n) (same_suc b c is)

none_at : (a : ℕ) (es : List Byte) → sum_by (one_at a) es ≡ 0 → byte_found es a ≡ None
none_at a [] is = refl
none_at a (e ∷ es) is =
    by_test (e.0 == a) (sum_by (one_at a) es) (sym (sum_by-cons (one_at a) e es) ∙ is) (none_at a es)
  where
    by_test : (t : Bool) (n : ℕ) → (if t then 1 else 0) + n ≡ 0 → (n ≡ 0 → byte_found es a ≡ None)
        → (if t then Some e.1 else byte_found es a) ≡ None
    by_test true n all rest = absurd (omega (arith, all))
    by_test false n all rest = rest (omega (arith, all))

no_more : (a : ℕ) (es : List Byte) → byte_found es a ≡ None → sum_by (one_at a) es ≡ 0
no_more a [] is = refl
no_more a (e ∷ es) is = sum_by-cons (one_at a) e es
    ∙ by_test (e.0 == a) (sum_by (one_at a) es) is (no_more a es)
  where
    by_test : (t : Bool) (n : ℕ) → (if t then Some e.1 else byte_found es a) ≡ None → (byte_found es a ≡ None → n ≡ 0)
        → (if t then 1 else 0) + n ≡ 0
    by_test true n gone rest = none_is_some e.1 (sym gone)
    by_test false n gone rest = let none : n ≡ 0 = rest gone in omega (arith, none)

at_most_one : (a : ℕ) (es : List Byte) → AreApart es → sum_by (one_at a) es ≤ 1
at_most_one a [] apart = omega arith
at_most_one a (e ∷ es) apart =
    let sum : sum_by (one_at a) (e ∷ es) ≡ one_at a e + sum_by (one_at a) es = sum_by-cons (one_at a) e es in
    let most : one_at a e + sum_by (one_at a) es ≤ 1
    = by_test (e.0 == a) (sum_by (one_at a) es)
    (λ here. no_more a es (ap (byte_found es) (sym (eqb-true e.0 a here)) ∙ apart.0)) (at_most_one a es apart.1) in
    omega (arith, sum, most)
  where
    by_test : (t : Bool) (n : ℕ) → (t ≡ true → n ≡ 0) → n ≤ 1 → (if t then 1 else 0) + n ≤ 1
    by_test true n none most = let is : n ≡ 0 = none refl in omega (arith, is)
    by_test false n none most = omega (arith, most)

apart_by : (es : List Byte) → ((a : ℕ) → sum_by (one_at a) es ≤ 1) → AreApart es
apart_by [] most = tt
apart_by (e ∷ es) most = (none_at e.0 es none, apart_by es (λ a. less a))
  where
    here : (n : ℕ) (t : Bool) → t ≡ true → (if t then 1 else 0) + n ≤ 1 → n ≡ 0
    here n true is most = omega (arith, most)
    here n false is most = cc

    none : sum_by (one_at e.0) es ≡ 0
    none =
        let sum : sum_by (one_at e.0) (e ∷ es) ≡ one_at e.0 e + sum_by (one_at e.0) es
        = sum_by-cons (one_at e.0) e es in
        here (sum_by (one_at e.0) es) (e.0 == e.0) (eq-eqb e.0 e.0 refl) (omega (arith, sum, most e.0))

    less : (a : ℕ) → sum_by (one_at a) es ≤ 1
    less a =
        let sum : sum_by (one_at a) (e ∷ es) ≡ one_at a e + sum_by (one_at a) es = sum_by-cons (one_at a) e es in
        omega (arith, sum, most a)

total_is : (a : ℕ) (es : List Byte) → AreApart es → sum_by (byte_at a) es ≡ number_of (byte_found es a)
total_is a [] apart = refl
total_is a (e ∷ es) apart = sum_by-cons (byte_at a) e es
    ∙ by_test (e.0 == a) (sum_by (byte_at a) es)
    (λ here. ap (byte_found es) (sym (eqb-true e.0 a here)) ∙ apart.0) (total_is a es apart.1)
  where
    by_test : (t : Bool) (n : ℕ) → (t ≡ true → byte_found es a ≡ None) → n ≡ number_of (byte_found es a)
        → (if t then suc e.1 else 0) + n ≡ number_of (if t then Some e.1 else byte_found es a)
    by_test true n gone is = let none : n ≡ 0 = is ∙ ap number_of (gone refl) in omega (arith, none)
    by_test false n gone is = omega (arith, is)

-- ---- a list that ascends

not_there : (a : ℕ) (es : List Byte) (i : ℕ) (d : Byte) → byte_found es a ≡ None → i < length es
    → a ≡ (slice_index_or es i d).0 → ⊥
not_there a [] i d gone less is = omega (arith, less)
not_there a (e ∷ es) zero d gone less is =
    none_is_some e.1 (sym (ap (byte_found (e ∷ es)) (sym is) ∙ gone) ∙ byte_found-here e.0 e.1 es)
not_there a (e ∷ es) (suc i) d gone less is =
    by_address (cases_eq e.0 a) (λ none. not_there a es i d none (omega (arith, less)) is)
  where
    by_address : (e.0 ≡ a) ⊎ (e.0 ≡ a → ⊥) → (byte_found es a ≡ None → ⊥) → ⊥
    by_address (inl here) rest =
        none_is_some e.1 (sym (ap (byte_found (e ∷ es)) here ∙ gone) ∙ byte_found-here e.0 e.1 es)
    by_address (inr other) rest = rest (sym (byte_found-other e es a other) ∙ gone)

rises_by : (least : ℕ) (es : List Byte) → ((i : ℕ) (d : Byte) → i < length es → least ≤ (slice_index_or es i d).0)
    → AreApart es → IsNonDecreasingBy (λ e. e.0) es → BytesRise least es
rises_by least [] low apart ascends = tt
rises_by least (e ∷ es) low apart ascends = (
  low 0 e (omega arith),
  rises_by (e.0 + 1) es
      (λ i d less. strictly e.0 (slice_index_or es i d).0 (ascends 0 (suc i) d (omega arith) (omega (arith, less)))
      (not_there e.0 es i d apart.0 less)) apart.1
      (λ i j d less within. ascends (suc i) (suc j) d (omega (arith, less)) (omega (arith, within))),
)

pub sorts : (old new : List Byte) → AreApart old → IsPermutation old new → IsNonDecreasingBy (λ e. e.0) new
    → new ≡ sorted old
sorts old new apart moves ascends =
    let still : AreApart new = apart_by new (λ a. most a) in
    rising_lists_are_one 0 0 new (sorted old) (rises_by 0 new (λ i d less. omega arith) still ascends)
    (BytesRise-sorted old)
    (λ a. same_number (byte_found new a) (byte_found old a)
    (sym (total_is a new still) ∙ (sum_by-IsPermutation (byte_at a) old new moves ∙ total_is a old apart))
    ∙ sym (byte_found-sorted old a))
  where
    most : (a : ℕ) → sum_by (one_at a) new ≤ 1
    most a =
        let same : sum_by (one_at a) new ≡ sum_by (one_at a) old = sum_by-IsPermutation (one_at a) old new moves in
        omega (arith, same, at_most_one a old apart)
