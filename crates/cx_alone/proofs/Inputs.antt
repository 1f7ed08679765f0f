-- Inputs that may be.
use Rattle.std.proofs.Common.{◌≡◌, ℕ, List, [], ◌∷◌, ◌++◌, length, drop, Option, Some, unwrap_or, refl, sym, ap, ◌∙◌}
use Rattle.std.proofs.lemmas.List.{append-nil}
use Rattle.cx_codec.proofs.Following.{begins_on, begins_self}
use Rattle.cx_replay.specs.Records.{GaveMore}
use Rattle.cx_alone.specs.Ahead.{MayBeInput}

pub given_may_be : (left : Option (List ℕ)) (given : List ℕ) → MayBeInput left given given
given_may_be left given = record {
  begins = record { rest = []; parts = sym (append-nil given) };
  whole = λ none. refl;
}

pub real_may_be : (left given : List ℕ) → MayBeInput (Some left) given (given ++ left)
real_may_be left given = record {
  begins = begins_self given left;
  whole = λ (none : left ≡ []). ap (λ (l : List ℕ). given ++ l) none ∙ append-nil given;
}

front_of_nothing : (xs ys zs given : List ℕ) → (given ++ xs) ++ ys ≡ given ++ zs → zs ≡ [] → xs ≡ []
front_of_nothing xs ys zs [] is none = first xs ys (is ∙ none)
  where
    first : (xs ys : List ℕ) → xs ++ ys ≡ [] → xs ≡ []
    first [] ys is = refl
    first (x ∷ xs) ys is = cc
front_of_nothing xs ys zs (g ∷ given) is none = front_of_nothing xs ys zs given (tail is) none
  where
    tail : (g ∷ ((given ++ xs) ++ ys)) ≡ g ∷ (given ++ zs) → (given ++ xs) ++ ys ≡ given ++ zs
    tail is = cc

rest_of_nothing : (xs ys zs given : List ℕ) → (given ++ xs) ++ ys ≡ given ++ zs → zs ≡ [] → ys ≡ []
rest_of_nothing xs ys zs [] is none = second xs ys (is ∙ none)
  where
    second : (xs ys : List ℕ) → xs ++ ys ≡ [] → ys ≡ []
    second [] ys is = is
    second (x ∷ xs) ys is = cc
rest_of_nothing xs ys zs (g ∷ given) is none = rest_of_nothing xs ys zs given (tail is) none
  where
    tail : (g ∷ ((given ++ xs) ++ ys)) ≡ g ∷ (given ++ zs) → (given ++ xs) ++ ys ≡ given ++ zs
    tail is = cc

-- Where nothing was left before, nothing more was given.
pub may_be_before : (left left_now : Option (List ℕ)) (given given_now input : List ℕ)
    → GaveMore left given left_now given_now → MayBeInput left_now given_now input → MayBeInput left given input
may_be_before left left_now given given_now input gave may = record {
  begins = begins_on gave.grows may.begins;
  whole = λ (none : unwrap_or left [] ≡ []).
      let parts : (given ++ gave.grows.rest) ++ unwrap_or left_now [] ≡ given ++ unwrap_or left []
      = ap (λ (l : List ℕ). l ++ unwrap_or left_now []) (sym gave.grows.parts) ∙ gave.same in
      may.whole (rest_of_nothing gave.grows.rest (unwrap_or left_now []) (unwrap_or left []) given parts none)
      ∙ (gave.grows.parts
      ∙ (ap (λ (l : List ℕ). given ++ l)
      (front_of_nothing gave.grows.rest (unwrap_or left_now []) (unwrap_or left []) given parts none)
      ∙ append-nil given));
}

-- A place with nothing ahead in the real input has nothing left behind it.
pub nothing_is_left : (ready given left : List ℕ) → ready ++ drop (length given) (given ++ left) ≡ [] → left ≡ []
nothing_is_left [] [] left is = is
nothing_is_left [] (g ∷ given) left is = nothing_is_left [] given left is
nothing_is_left (r ∷ ready) given left is = cc
