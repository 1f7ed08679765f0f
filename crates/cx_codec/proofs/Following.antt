-- What a source gave from one call to the next.
use Rattle.std.proofs.Common.{
  ◌≡◌,
  ℕ,
  ◌+◌,
  ◌-◌,
  ◌≤◌,
  List,
  [],
  ◌++◌,
  length,
  drop,
  arith,
  refl,
  ap,
  sym,
  ◌∙◌,
  IsSome,
  append_assoc,
  length-append,
  length-drop,
}
use Rattle.std.proofs.lemmas.List.{append-nil}
use Rattle.cx_codec.specs.Place.{end_of}
use Rattle.cx_codec.specs.Reads.{Begins, Standing, Follows, place_in}

pub begins_self : (front rest : List ℕ) → Begins front (front ++ rest)
begins_self front rest = record { rest = rest; parts = refl }

pub begins_on : {a b c : List ℕ} → Begins a b → Begins b c → Begins a c
begins_on {a} {b} {c} first then = record {
  rest = first.rest ++ then.rest;
  parts = then.parts ∙ ap (λ (xs : List ℕ). xs ++ then.rest) first.parts ∙ append_assoc a first.rest then.rest;
}

pub begins_length : {front input : List ℕ} → Begins front input → length front ≤ length input
begins_length {front} {input} begins = omega (arith, length-append front begins.rest, ap length begins.parts)

pub follows_none : (s : Standing) → IsSome s.left → Follows s s
follows_none s told = record {
  told = told;
  same = refl;
  grows = record { rest = []; parts = sym (append-nil s.given) };
  level = refl;
}

pub follows_on : {a b c : Standing} → Follows a b → Follows b c → Follows a c
follows_on first then = record {
  told = then.told;
  same = then.same ∙ first.same;
  grows = begins_on first.grows then.grows;
  level = omega (arith, first.level, then.level);
}

-- the input ends where it ended
pub end_stays : {old new : Standing} → Follows old new → (input : List ℕ) → Begins new.given input
    → end_of (place_in old input) ≡ end_of (place_in new input)
end_stays {old} {new} follows input begins =
    let grown = begins_length follows.grows in
    let whole = begins_length begins in
    let before : length (old.hand.ahead ++ drop (length old.given) input) ≡ length old.hand.ahead +
    (length input - length old.given)
    = length-append old.hand.ahead _
    ∙ ap (λ (n : ℕ). length old.hand.ahead + n) (length-drop (length old.given) input) in
    let after : length (new.hand.ahead ++ drop (length new.given) input) ≡ length new.hand.ahead +
    (length input - length new.given)
    = length-append new.hand.ahead _
    ∙ ap (λ (n : ℕ). length new.hand.ahead + n) (length-drop (length new.given) input) in
    rw (before, after) (omega (arith, follows.level))
