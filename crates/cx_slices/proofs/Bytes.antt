-- Bytes at addresses.
use Rattle.std.proofs.Common.{◌≡◌, ℕ, ◌+◌, ◌<◌, ◌≤◌, ◌==◌, nat_lt, Bool, true, false, ◌⊎◌, inl, inr, List, [], ◌∷◌}
use Rattle.std.proofs.Common.{Option, None, Some, if◌then◌else◌, cond, eq-eqb, ne_eqb, refl, sym, ap, ◌∙◌, arith}
use Rattle.std.proofs.lemmas.Bool.{cases_eq, cases_order, cond_both, ltb-true, ltb-false, eqb-true, eqb-false}
use Rattle.cx_slices.specs.Bytes.{Byte, BytesRise, Map, Shows, byte_found, inserted, is_byte, sorted}
use Rattle.cx_slices.proofs.Small.{above, none_is_some, some_is_same}

pub byte_found-here : (a b : ℕ) (es : List Byte) → byte_found ((a, b) ∷ es) a ≡ Some b
byte_found-here a b es = rw (eq-eqb a a refl) refl

pub byte_found-other : (e : Byte) (es : List Byte) (a : ℕ) → (e.0 ≡ a → ⊥) → byte_found (e ∷ es) a ≡ byte_found es a
byte_found-other e es a other = rw (ne_eqb e.0 a other) refl

pub byte_found-below : (least a : ℕ) (es : List Byte) → BytesRise least es → a < least → byte_found es a ≡ None
byte_found-below least a [] rises less = refl
byte_found-below least a (e ∷ es) rises less = byte_found-other e es a (above e.0 a (omega arith))
    ∙ byte_found-below (e.0 + 1) a es rises.1 (omega arith)

pub BytesRise-less : (m n : ℕ) (es : List Byte) → m ≤ n → BytesRise n es → BytesRise m es
BytesRise-less m n [] less rises = tt
BytesRise-less m n (e ∷ es) less rises = (omega arith, rises.1)

-- ---- lists that rise

tails_agree : (x y : Byte) (xs ys : List Byte) → x.0 ≡ y.0 → BytesRise (x.0 + 1) xs → BytesRise (y.0 + 1) ys
    → ((a : ℕ) → byte_found (x ∷ xs) a ≡ byte_found (y ∷ ys) a) → (a : ℕ) → byte_found xs a ≡ byte_found ys a
tails_agree x y xs ys is rx ry same a = by_address (cases_eq x.0 a)
  where
    by_address : (x.0 ≡ a) ⊎ (x.0 ≡ a → ⊥) → byte_found xs a ≡ byte_found ys a
    by_address (inl here) = byte_found-below (x.0 + 1) a xs rx (omega arith)
        ∙ sym (byte_found-below (y.0 + 1) a ys ry (omega arith))
    by_address (inr other) = sym (byte_found-other x xs a other) ∙ (same a
        ∙ byte_found-other y ys a (λ there. other (is ∙ there)))

heads_agree : (x y : Byte) (xs ys : List Byte) → x.0 ≡ y.0
    → ((a : ℕ) → byte_found (x ∷ xs) a ≡ byte_found (y ∷ ys) a) → x.1 ≡ y.1
heads_agree x y xs ys is same =
    let there : byte_found (y ∷ ys) x.0 ≡ Some y.1 = ap (byte_found (y ∷ ys)) is ∙ byte_found-here y.0 y.1 ys in
    some_is_same x.1 y.1 (sym (byte_found-here x.0 x.1 xs) ∙ (same x.0 ∙ there))

same_pair : (x y : Byte) → x.0 ≡ y.0 → x.1 ≡ y.1 → x ≡ y
same_pair x y first second = rw (first, second) refl

same_lists : (x y : Byte) (xs ys : List Byte) → x ≡ y → xs ≡ ys → x ∷ xs ≡ y ∷ ys
same_lists x y xs ys first rest = rw (first, rest) refl

first_is_there : {P : Type 0} (x y : Byte) (xs ys : List Byte) → x.0 < y.0 → BytesRise (y.0 + 1) ys
    → byte_found (x ∷ xs) x.0 ≡ byte_found (y ∷ ys) x.0 → P
first_is_there x y xs ys less rises same =
    let gone : byte_found (y ∷ ys) x.0 ≡ None = byte_found-below y.0 x.0 (y ∷ ys) (omega arith, rises) less in
    none_is_some x.1 (sym gone ∙ (sym same ∙ byte_found-here x.0 x.1 xs))

pub rising_lists_are_one : (m n : ℕ) (xs ys : List Byte) → BytesRise m xs → BytesRise n ys
    → ((a : ℕ) → byte_found xs a ≡ byte_found ys a) → xs ≡ ys
rising_lists_are_one m n [] [] rx ry same = refl
rising_lists_are_one m n [] (y ∷ ys) rx ry same = none_is_some y.1 (same y.0 ∙ byte_found-here y.0 y.1 ys)
rising_lists_are_one m n (x ∷ xs) [] rx ry same = none_is_some x.1 (sym (same x.0) ∙ byte_found-here x.0 x.1 xs)
rising_lists_are_one m n (x ∷ xs) (y ∷ ys) rx ry same = by_order (cases_order x.0 y.0)
    (rising_lists_are_one (x.0 + 1) (y.0 + 1) xs ys rx.1 ry.1)
  where
    by_order : (x.0 ≡ y.0) ⊎ ((x.0 < y.0) ⊎ (y.0 < x.0)) → (((a : ℕ) → byte_found xs a ≡ byte_found ys a) → xs ≡ ys)
        → x ∷ xs ≡ y ∷ ys
    by_order (inl is) rest = same_lists x y xs ys (same_pair x y is (heads_agree x y xs ys is same))
        (rest (tails_agree x y xs ys is rx.1 ry.1 same))
    by_order (inr (inl less)) rest = first_is_there x y xs ys less ry.1 (same x.0)
    by_order (inr (inr less)) rest = first_is_there y x ys xs less rx.1 (sym (same y.0))

-- ---- lists in order

pub BytesRise-inserted : (least : ℕ) (e : Byte) (es : List Byte) → least ≤ e.0 → BytesRise least es
    → BytesRise least (inserted e es)
BytesRise-inserted least e [] low rises = (low, tt)
BytesRise-inserted least e (f ∷ fs) low rises =
    cond_both (nat_lt e.0 f.0) (e ∷ f ∷ fs) (if e.0 == f.0 then e ∷ fs else f ∷ inserted e fs) (BytesRise least)
    (λ less. let up : e.0 < f.0 = ltb-true e.0 f.0 less in (low, (omega arith, rises.1)))
    (λ not_less. let down : f.0 ≤ e.0 = ltb-false e.0 f.0 not_less in
    cond_both (e.0 == f.0) (e ∷ fs) (f ∷ inserted e fs) (BytesRise least)
    (λ is. let same : e.0 ≡ f.0 = eqb-true e.0 f.0 is in
    (low, BytesRise-less (e.0 + 1) (f.0 + 1) fs (omega arith) rises.1))
    (λ is_not. (rises.0, BytesRise-inserted (f.0 + 1) e fs (strictly f.0 e.0 down (eqb-false e.0 f.0 is_not)) rises.1)))
  where
    strictly : (a b : ℕ) → a ≤ b → (b ≡ a → ⊥) → a + 1 ≤ b
    strictly a b less other = grind arith

pub BytesRise-sorted : (es : List Byte) → BytesRise 0 (sorted es)
BytesRise-sorted [] = tt
BytesRise-sorted (e ∷ es) = BytesRise-inserted 0 e (sorted es) (omega arith) (BytesRise-sorted es)

hidden : {X : Type 0} (t : Bool) (x y z : X) → cond t x z ≡ cond t x (cond t y z)
hidden true x y z = refl
hidden false x y z = refl

swapped : {X : Type 0} (s t : Bool) (x y z : X) → (s ≡ true → t ≡ true → ⊥)
    → cond s x (cond t y z) ≡ cond t y (cond s x z)
swapped true true x y z apart = absurd (apart refl refl)
swapped true false x y z apart = refl
swapped false true x y z apart = refl
swapped false false x y z apart = refl

apart_tests : (e f a : ℕ) → (e ≡ f → ⊥) → (f == a) ≡ true → (e == a) ≡ true → ⊥
apart_tests e f a apart first second = apart (eqb-true e a second ∙ sym (eqb-true f a first))

same_test : (e f : Byte) (fs : List Byte) (a : ℕ) → e.0 ≡ f.0 → byte_found (e ∷ fs) a ≡ byte_found (e ∷ f ∷ fs) a
same_test e f fs a is = hidden (e.0 == a) (Some e.1) (Some f.1) (byte_found fs a)
    ∙ ap (λ (n : ℕ). cond (e.0 == a) (Some e.1) (cond (n == a) (Some f.1) (byte_found fs a))) is

pub byte_found-inserted : (e : Byte) (es : List Byte) (a : ℕ) → byte_found (inserted e es) a ≡ byte_found (e ∷ es) a
byte_found-inserted e [] a = refl
byte_found-inserted e (f ∷ fs) a =
    cond_both (nat_lt e.0 f.0) (e ∷ f ∷ fs) (if e.0 == f.0 then e ∷ fs else f ∷ inserted e fs)
    (λ es. byte_found es a ≡ byte_found (e ∷ f ∷ fs) a) (λ less. refl)
    (λ not_less. cond_both (e.0 == f.0) (e ∷ fs) (f ∷ inserted e fs)
    (λ es. byte_found es a ≡ byte_found (e ∷ f ∷ fs) a)
    (λ is. same_test e f fs a (eqb-true e.0 f.0 is))
    (λ is_not. ap (cond (f.0 == a) (Some f.1)) (byte_found-inserted e fs a)
    ∙ swapped (f.0 == a) (e.0 == a) (Some f.1) (Some e.1) (byte_found fs a)
    (apart_tests e.0 f.0 a (eqb-false e.0 f.0 is_not))))

pub byte_found-sorted : (es : List Byte) (a : ℕ) → byte_found (sorted es) a ≡ byte_found es a
byte_found-sorted [] a = refl
byte_found-sorted (e ∷ es) a = byte_found-inserted e (sorted es) a
    ∙ ap (cond (e.0 == a) (Some e.1)) (byte_found-sorted es a)

-- ---- bytes that a map has

pub Shows-at : (map : Map) (es : List Byte) (a b : ℕ) → Shows map es → byte_found es a ≡ Some b → map a ≡ Some b
Shows-at map [] a b shows found = none_is_some b found
Shows-at map (e ∷ es) a b shows found = by_address (cases_eq e.0 a) (Shows-at map es a b shows.1)
  where
    by_address : (e.0 ≡ a) ⊎ (e.0 ≡ a → ⊥) → (byte_found es a ≡ Some b → map a ≡ Some b) → map a ≡ Some b
    by_address (inl here) rest = ap map (sym here) ∙ (shows.0 ∙ (sym (byte_found-here e.0 e.1 es)
        ∙ (ap (byte_found (e ∷ es)) here ∙ found)))
    by_address (inr other) rest = rest (sym (byte_found-other e es a other) ∙ found)

not_behind : (a b : ℕ) (es : List Byte) (c : ℕ) → BytesRise (c + 1) es → byte_found es a ≡ Some b → c ≡ a → ⊥
not_behind a b es c rises found is =
    let gone : byte_found es a ≡ None = byte_found-below (c + 1) a es rises (omega arith) in
    none_is_some b (sym gone ∙ found)

pub Shows-from : (map : Map) (least : ℕ) (es : List Byte) → BytesRise least es
    → ((a b : ℕ) → byte_found es a ≡ Some b → map a ≡ Some b) → Shows map es
Shows-from map least [] rises has = tt
Shows-from map least (e ∷ es) rises has = (
  has e.0 e.1 (byte_found-here e.0 e.1 es),
  Shows-from map (e.0 + 1) es rises.1
      (λ a b found. has a b (byte_found-other e es a (not_behind a b es e.0 rises.1 found) ∙ found)),
)

pub is_byte-true : (there : Option ℕ) (b : ℕ) → is_byte there b ≡ true → there ≡ Some b
is_byte-true None b is = cc
is_byte-true (Some c) b is = ap {B = Option ℕ} Some (eqb-true c b is)

pub is_byte-at : (there : Option ℕ) (b : ℕ) → there ≡ Some b → is_byte there b ≡ true
is_byte-at there b is = ap (λ t. is_byte t b) is ∙ eq-eqb b b refl
