-- What a step alone had, where it went with what is placed there.
use Rattle.std.proofs.Common.{◌≡◌, ℕ, ◌&&◌, ◌==◌, Bool, true, false, List, [], ◌∷◌, Option, None, Some}
use Rattle.std.proofs.Common.{option_and_then, eqb-true, Result, Ok, Err, if◌then◌else◌, refl, sym, ap, subst, ◌∙◌}
use Rattle.std.proofs.lemmas.Bool.{and_parts}
use Rattle.cx_slices.specs.Bytes.{Byte, all_there, with_bytes}
use Rattle.cx_slices.specs.Items.{is_nil}
use Rattle.cx_slices.specs.Observed.{Watch}
use Rattle.cx_slices.specs.Words.{changed}
use Rattle.cx_slices.proofs.Small.{none_is_some, not_Ok, some_is_same}
use Rattle.cx_placing.specs.Called.{
  CallStanding,
  all_met,
  if_met,
  is_call,
  may_stand,
  step_called,
  still_owed,
  words_with,
}
use Rattle.cx_placing.specs.CallsAlone.{go_on_called, with_first}
use Rattle.cx_placing.specs.Placing.{Call, Placed}

-- The items could stand, the step went with them, it saw their bytes, met what was owed, and is the call that it has.
pub record Went {O G : Type 0} (m : Watch O G) (called : O → Option ℕ) (s : CallStanding) (p : Placed G) (o : O)
    : Type 0 where
  pub may : may_stand s p.items ≡ true
  pub goes : m.step (changed s.known.words (words_with s.words p.items.words))
      (with_bytes p.items.bytes s.known.map) p.items.given ≡ Some o
  pub there : all_there (m.seen o) p.items.bytes ≡ true
  pub met : all_met m o s.owed ≡ true
  pub call : is_call (called o) p.call (still_owed m o s.owed) ≡ true

if_some : {O : Type 0} (t : Bool) (p o : O) → (if t then Some p else None) ≡ Some o → (t ≡ true) × (p ≡ o)
if_some true p o is = (refl, some_is_same p o is)
if_some false p o is = none_is_some o is

if_met-is : {O G : Type 0} (m : Watch O G) (called : O → Option ℕ) (s : CallStanding) (p : Placed G) (q o : O)
    → may_stand s p.items ≡ true
    → m.step (changed s.known.words (words_with s.words p.items.words)) (with_bytes p.items.bytes s.known.map)
    p.items.given ≡ Some q
    → if_met m called s p q ≡ Some o → Went m called s p o
if_met-is m called s p q o may goes met =
    let both : ((all_there (m.seen q) p.items.bytes
    && (all_met m q s.owed && is_call (called q) p.call (still_owed m q s.owed))) ≡ true) × (q ≡ o)
    = if_some (all_there (m.seen q) p.items.bytes
    && (all_met m q s.owed && is_call (called q) p.call (still_owed m q s.owed))) q o met in
    let parts : (all_there (m.seen q) p.items.bytes ≡ true)
    × ((all_met m q s.owed && is_call (called q) p.call (still_owed m q s.owed)) ≡ true)
    = and_parts (all_there (m.seen q) p.items.bytes)
    (all_met m q s.owed && is_call (called q) p.call (still_owed m q s.owed)) both.0 in
    let others : (all_met m q s.owed ≡ true) × (is_call (called q) p.call (still_owed m q s.owed) ≡ true)
    = and_parts (all_met m q s.owed) (is_call (called q) p.call (still_owed m q s.owed)) parts.1 in
    subst (Went m called s p) both.1
    (record { may = may; goes = goes; there = parts.0; met = others.0; call = others.1 })

went_on : {O G : Type 0} (m : Watch O G) (called : O → Option ℕ) (s : CallStanding) (p : Placed G) (o : O)
    (stepped : Option O) → may_stand s p.items ≡ true
    → m.step (changed s.known.words (words_with s.words p.items.words)) (with_bytes p.items.bytes s.known.map)
    p.items.given ≡ stepped
    → option_and_then (if_met m called s p) stepped ≡ Some o → Went m called s p o
went_on m called s p o None may goes met = none_is_some o met
went_on m called s p o (Some q) may goes met = if_met-is m called s p q o may goes met

went_new : {O G : Type 0} (m : Watch O G) (called : O → Option ℕ) (s : CallStanding) (p : Placed G) (o : O)
    (may : Bool) → may_stand s p.items ≡ may
    → (if may then option_and_then (if_met m called s p)
    (m.step (changed s.known.words (words_with s.words p.items.words)) (with_bytes p.items.bytes s.known.map)
    p.items.given) else None) ≡ Some o
    → Went m called s p o
went_new m called s p o true is went = went_on m called s p o
    (m.step (changed s.known.words (words_with s.words p.items.words)) (with_bytes p.items.bytes s.known.map)
    p.items.given) is refl went
went_new m called s p o false is went = none_is_some o went

pub step_called-went : {O G : Type 0} (m : Watch O G) (called : O → Option ℕ) (s : CallStanding) (p : Placed G)
    (o : O) → step_called m called s p ≡ Some o → Went m called s p o
step_called-went m called s p o went = went_new m called s p o (may_stand s p.items) refl went

-- ---- the call of a step

-- Neither is a call, or both are one with the same number, behind which nothing is owed.
abbrev pub IsItsCall : Option ℕ → Option Call → List Byte → Type 0
IsItsCall None None owed = Unit {0}
IsItsCall None (Some call) owed = ⊥
IsItsCall (Some number) None owed = ⊥
IsItsCall (Some number) (Some call) owed = (number ≡ call.number) × (owed ≡ [])

nil_from : (es : List Byte) → is_nil es ≡ true → es ≡ []
nil_from [] is = refl
nil_from (e ∷ es) is = cc

pub its_call : (called : Option ℕ) (call : Option Call) (owed : List Byte) → is_call called call owed ≡ true
    → IsItsCall called call owed
its_call None None owed is = tt
its_call None (Some call) owed is = cc
its_call (Some number) None owed is = cc
its_call (Some number) (Some call) owed is =
    let parts : ((number == call.number) ≡ true) × (is_nil owed ≡ true)
    = and_parts (number == call.number) (is_nil owed) is in
    (eqb-true number call.number parts.0, nil_from owed parts.1)

-- ---- what a run gives

pub first_of_run : {O : Type 0} (k : ℕ) (rest : O → Result (List O) ℕ) (stepped : Option O) (o : O) (os : List O)
    → go_on_called k rest stepped ≡ Ok (o ∷ os) → (stepped ≡ Some o) × (rest o ≡ Ok os)
first_of_run k rest None o os is = not_Ok k (o ∷ os) is
first_of_run {O = O} k rest (Some p) o os is = by_rest (rest p) refl is
  where
    by_rest : (r : Result (List O) ℕ) → rest p ≡ r → with_first p r ≡ Ok (o ∷ os)
        → (Some p ≡ Some o) × (rest o ≡ Ok os)
    by_rest (Err n) was is = not_Ok n (o ∷ os) is
    by_rest (Ok ps) was is =
        let same : (p ≡ o) × (ps ≡ os) = (cc, cc) in
        (ap {B = Option O} Some same.0, ap rest (sym same.0) ∙ (was ∙ ap {B = Result (List O) ℕ} Ok same.1))

pub some_of_run : {P O : Type 0} (k : ℕ) (rest : O → Result (List O) ℕ) (stepped : Option O)
    → go_on_called k rest stepped ≡ Ok [] → P
some_of_run k rest None is = not_Ok k [] is
some_of_run {P = P} {O = O} k rest (Some o) is = by_rest (rest o) is
  where
    by_rest : (r : Result (List O) ℕ) → with_first o r ≡ Ok [] → P
    by_rest (Err n) is = not_Ok n [] is
    by_rest (Ok os) is = cc
