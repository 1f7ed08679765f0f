-- Texts that stand at a place, in parts.
use Rattle.std.proofs.Common.{
  ◌≡◌,
  ℕ,
  ◌+◌,
  ◌<◌,
  ◌≤◌,
  List,
  [],
  ◌++◌,
  length,
  get_or,
  arith,
  refl,
  ap,
  sym,
  ◌∙◌,
  append_assoc,
  length-append,
}
use Rattle.std.proofs.lemmas.List.{get_or_append_left, get_or-append-add, get_or_past}
use Rattle.std.proofs.lemmas.Bool.{cases_lt}
use Rattle.std.proofs.Common.{⊎_elim}
use Rattle.cx_codec.specs.Place.{Place, Takes, behind_text}
use Rattle.cx_map.specs.Bytes.{AreBytes}

pub takes_first : (p after : Place) (a b : List ℕ) → Takes p (a ++ b) after
    → Takes p a (behind_text p a (b ++ after.ahead))
takes_first p after a b takes = record {
  ahead = takes.ahead ∙ append_assoc a b after.ahead;
  there = refl;
  limit = refl;
  within = omega (arith, takes.within, length-append a b);
}

pub takes_second : (p after : Place) (a b : List ℕ) → Takes p (a ++ b) after
    → Takes (behind_text p a (b ++ after.ahead)) b after
takes_second p after a b takes = record {
  ahead = refl;
  there = omega (arith, takes.there, length-append a b);
  limit = takes.limit;
  within = omega (arith, takes.within, length-append a b);
}

pub takes_both : (p mid after : Place) (a b : List ℕ) → Takes p a mid → Takes mid b after → Takes p (a ++ b) after
takes_both p mid after a b first second = record {
  ahead = first.ahead ∙ ap (λ (rest : List ℕ). a ++ rest) second.ahead ∙ sym (append_assoc a b after.ahead);
  there = omega (arith, first.there, second.there, length-append a b);
  limit = second.limit ∙ first.limit;
  within = omega (arith, first.within, second.within, first.limit, first.there, length-append a b);
}

pub takes_nothing : (p : Place) → Takes p [] p
takes_nothing p = record { ahead = refl; there = omega arith; limit = refl; within = omega arith }

-- the same text and end by other names
pub takes_along : (p after after' : Place) (text text' : List ℕ) → text ≡ text' → after ≡ after' → Takes p text after
    → Takes p text' after'
takes_along p after after' text text' same end takes = rw (← same, ← end) takes

-- behind bytes are bytes, and they are some
pub bytes_behind : (p after : Place) (text : List ℕ) → AreBytes p.ahead → Takes p text after → AreBytes after.ahead
bytes_behind p after text are takes i =
    let there = are (length text + i) in
    let same : get_or p.ahead (length text + i) 0 ≡ get_or after.ahead i 0 =
    ap (λ (xs : List ℕ). get_or xs (length text + i) 0) takes.ahead ∙ get_or-append-add text after.ahead i 0 in
    rw (← same) there

pub bytes_taken : (p after : Place) (text : List ℕ) → AreBytes p.ahead → Takes p text after → AreBytes text
bytes_taken p after text are takes i =
    ⊎_elim (λ (inside : i < length text).
    let same : get_or p.ahead i 0 ≡ get_or text i 0 = ap (λ (xs : List ℕ). get_or xs i 0) takes.ahead
    ∙ get_or_append_left text after.ahead 0 i inside in
    rw (← same) (are i))
    (λ (past : length text ≤ i). rw (get_or_past text i 0 past) (omega arith)) (cases_lt i (length text))
