-- The mark of the step that was given last.
use Rattle.std.proofs.Common.{◌≡◌, ℕ, suc, ◌+◌, ◌≤◌, ◌==◌, ◌&&◌, ◌||◌, Bool, true, false, List, [], ◌∷◌}
use Rattle.std.proofs.Common.{◌++◌}
use Rattle.std.proofs.Common.{Option, None, Some, if◌then◌else◌, refl, sym, ap, subst, ◌∙◌, inl, inr, arith, length}
use Rattle.std.proofs.Common.{append_assoc, length-append}
use Rattle.std.proofs.lemmas.Bool.{cases_eq, eq-eqb, eqb-true, ne_eqb}
use Rattle.cx_log.specs.Order.{InOrder, at_start, behind_it}
use Rattle.cx_log.specs.Recording.{Recorded}
use Rattle.cx_log.specs.declared.order.Behind.{Behind}
use Rattle.cx_run.specs.Events.{AllBelow, NoneBelow}
use Rattle.cx_run.specs.StepEvents.{has_mark}
use Rattle.cx_run.specs.Window.{is_mark}
use Rattle.cx_run.proofs.StandingLines.{order_rises}
use Rattle.cx_run.proofs.StepEvents.{has_mark-later}
use Rattle.cx_hart.specs.Whole.{Whole}
use Rattle.cx_hart.specs.declared.record.StepRec.{StepRec}
use Rattle.cx_log.specs.Reading.{Opened}
use Rattle.cx_log.specs.Scan.{Scan}
use Rattle.cx_run.proofs.LaterEvents.{none_below_less}
use Rattle.cx_replay.specs.Handing.{last_mark_behind, marked_by_record}
use Rattle.cx_replay.specs.Replaying.{AllAt, IsAhead, Progress, Stands, passed_mark, waiting_of}

-- the option is this step
abbrev pub is_step : ℕ → Option ℕ → Bool
is_step n None = false
is_step n (Some step) = step == n

has_mark-append : (n : ℕ) (xs ys : List Recorded) → has_mark n (xs ++ ys) ≡ (has_mark n xs || has_mark n ys)
has_mark-append n [] ys = refl
has_mark-append n (r ∷ xs) ys = rw (has_mark-append n xs ys) (or_assoc (r.step == n && is_mark r.event) _ _)
  where
    or_assoc : (a b c : Bool) → (a || (b || c)) ≡ ((a || b) || c)
    or_assoc true b c = refl
    or_assoc false b c = refl

or_false : (a : Bool) → (a || false) ≡ a
or_false true = refl
or_false false = refl

marked_or : (a h b : Bool) → (b ≡ true → a ≡ true) → (h || a) ≡ (((a && true) || h) || b)
marked_or true true b more = refl
marked_or true false b more = refl
marked_or false true b more = refl
marked_or false false true more = let wrong : false ≡ true = more refl in cc
marked_or false false false more = refl

-- one record more, which is a mark or not
one_record : (n : ℕ) (r : Recorded) (past : List Recorded) (marked : Option ℕ) (m : Bool)
    → (is_step n marked ≡ true → r.step ≡ n)
    → is_step n (last_mark_behind (if m then Some r.step else marked) past)
    ≡ (has_mark n past || is_step n (if m then Some r.step else marked))
    → is_step n (last_mark_behind (if m then Some r.step else marked) past)
    ≡ (((r.step == n && m) || has_mark n past) || is_step n marked)
one_record n r past marked true here rest =
    rest ∙ marked_or (r.step == n) (has_mark n past) (is_step n marked) (λ e. eq-eqb r.step n (here e))
one_record n r past marked false here rest = rest ∙ other (r.step == n) (has_mark n past) (is_step n marked)
  where
    other : (a h b : Bool) → (h || b) ≡ (((a && false) || h) || b)
    other true h b = refl
    other false h b = refl

-- Behind records of steps up to n, the last mark is that of step n exactly where one of them is, or it was so before.
last_is : (pages n end : ℕ) (behind : Behind) (marked : Option ℕ) (past later : List Recorded)
    → InOrder pages behind (past ++ later) end → AllBelow (suc n) past
    → (is_step n marked ≡ true → n ≤ behind.step)
    → is_step n (last_mark_behind marked past) ≡ (has_mark n past || is_step n marked)
last_is pages n end behind marked [] later order below before = refl
last_is pages n end behind marked (r ∷ past) later order below before =
    let rises = order_rises pages behind r order.0 in
    let rest = last_is pages n end (behind_it behind r) (marked_by_record r marked) past later order.1 below.1
    (next rises (is_mark r.event)) in
    one_record n r past marked (is_mark r.event) (λ e. omega (arith, before e, rises, below.0)) rest
  where
    next : behind.step ≤ r.step → (m : Bool) → is_step n (if m then Some r.step else marked) ≡ true → n ≤ r.step
    next rises true e = let same = eqb-true r.step n e in omega (arith, same)
    next rises false e = omega (arith, before e, rises)

-- ---- the records of an input

all_at : (step : ℕ) (xs : List Recorded) → AllAt step xs → NoneBelow step xs
all_at step [] at = tt
all_at step (r ∷ xs) at = (omega (arith, at.0), all_at step xs at.1)

none_below-append : (step : ℕ) (xs ys : List Recorded) → NoneBelow step xs → NoneBelow step ys
    → NoneBelow step (xs ++ ys)
none_below-append step [] ys first last = last
none_below-append step (r ∷ xs) ys first last = (first.0, none_below-append step xs ys first.1 last)

ahead_none : (ended : Bool) (upto : ℕ) (rest : Scan) → IsAhead ended upto rest → NoneBelow upto rest.events
ahead_none true upto rest ahead = rw ahead.0 tt
ahead_none false upto rest ahead = ahead.events

passed_is : (marked : Option ℕ) (at n : ℕ) → at ≡ n + 1
    → elim marked [ None ↦ false | Some step ↦ step + 1 == at ] ≡ is_step n marked
passed_is None at n next = refl
passed_is (Some step) at n next =
    elim (cases_eq step n) [
      | inl same ↦ eq-eqb (step + 1) at (omega (arith, same, next)) ∙ sym (eq-eqb step n same)
      | inr other ↦ ne_eqb (step + 1) at (λ e. other (omega (arith, e, next))) ∙ sym (ne_eqb step n other)
    ]

pub passed_mark_is : (o : Opened) (whole : Scan) (given : List StepRec) (rec : StepRec) (m : Whole) (p : Progress)
    (bytes : List ℕ) (Has : Scan → Type 0) → Stands o whole (given ++ rec ∷ []) m p bytes Has
    → InOrder o.header.pages (at_start o.header.base o.header.start) whole.events whole.upto
    → passed_mark p ≡ has_mark (o.header.base + length given) whole.events
passed_mark_is o whole given rec m p bytes Has stands order =
    let n : ℕ = o.header.base + length given in
    let read = stands.read in
    let next : p.at ≡ n + 1 = omega (arith, stands.count, length-append given (rec ∷ [])) in
    let waiting : List Recorded = waiting_of bytes p.waiting in
    let later : List Recorded = waiting ++ read.rest.events in
    let parts : whole.events ≡ read.past ++ later = ap (λ (s : Scan). s.events) read.parts
    ∙ append_assoc read.past waiting read.rest.events in
    let below : AllBelow (suc n) read.past = subst (λ (k : ℕ). AllBelow k read.past) (omega (arith, next)) read.below in
    let none : NoneBelow (suc n) later = none_below_less (suc n) p.upto later (omega (arith, next, stands.within))
    (none_below-append p.upto waiting read.rest.events (all_at p.upto waiting read.waits)
    (ahead_none p.ended p.upto read.rest read.ahead)) in
    let in_order = subst (λ (xs : List Recorded). InOrder o.header.pages (at_start o.header.base o.header.start) xs
    whole.upto)
    parts order in
    let last = last_is o.header.pages n whole.upto (at_start o.header.base o.header.start) None read.past later in_order
    below (λ e. absurd (never e)) in
    passed_is p.marked p.at n next ∙ ap (is_step n) read.marked ∙ last ∙ or_false (has_mark n read.past)
    ∙ sym (ap (has_mark n) parts ∙ has_mark-append n read.past later ∙ rw (has_mark-later n later none) (or_false _))
  where
    never : false ≡ true → ⊥
    never e = cc
