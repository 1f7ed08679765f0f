-- What is due to a step, and its mark, are its events.
use Rattle.std.proofs.Common.{◌≡◌, ℕ, suc, ◌<◌, ◌≤◌, ◌==◌, ◌&&◌, ◌||◌, not, Bool, true, false}
use Rattle.std.proofs.Common.{List, [], ◌∷◌, ◌++◌, None, if◌then◌else◌, inl, inr, refl, sym}
use Rattle.std.proofs.Common.{ap}
use Rattle.std.proofs.Common.{subst, ◌∙◌, arith}
use Rattle.std.proofs.lemmas.Bool.{cases_lt, eq-eqb, ne_eqb}
use Rattle.std.proofs.lemmas.Bool.Decides.{nat_tests}
use Rattle.cx_log.specs.Order.{InOrder, behind_it, rank, rank_behind}
use Rattle.cx_log.specs.declared.order.Behind.{Behind}
use Rattle.cx_log.specs.Recording.{Event, Mark, Dma, Lines, Value, Recorded}
use Rattle.cx_machine.specs.Due.{Due, nothing_due}
use Rattle.cx_run.specs.Due.{due_at}
use Rattle.cx_run.specs.Events.{NoneBelow}
use Rattle.cx_run.specs.StepEvents.{at_step, has_mark, step_events}
use Rattle.cx_run.specs.StepEvents.{value_events}
use Rattle.cx_run.specs.Window.{events_between, is_mark}
use Rattle.cx_run.proofs.Events.{is_between}
use Rattle.cx_run.proofs.LaterEvents.{due_at-later, none_below_less, order_is_above}

-- ---- events of later steps

pub has_mark-later : (n : ℕ) (events : List Recorded) → NoneBelow (suc n) events → has_mark n events ≡ false
has_mark-later n [] later = refl
has_mark-later n (r ∷ events) later =
    rw (ne_eqb r.step n (λ same. omega (arith, later.0)), has_mark-later n events later.1) refl

pub at_step-later : (marks : Bool) (n : ℕ) (events : List Recorded) → NoneBelow (suc n) events
    → at_step marks n events ≡ []
at_step-later marks n [] later = refl
at_step-later marks n (r ∷ events) later =
    rw (ne_eqb r.step n (λ same. omega (arith, later.0))) (at_step-later marks n events later.1)

-- ---- what may not stand behind a record of the same step

pub record Quiet (n least : ℕ) (events : List Recorded) : Type 0 where
  pub mark : 1 ≤ least → has_mark n events ≡ false
  pub transfers : 2 ≤ least → (due_at events n).transfers ≡ []
  pub lines : 3 ≤ least → (due_at events n).lines ≡ None
  pub value : 4 ≤ least → (due_at events n).value ≡ None

quiet_later : (n least : ℕ) (events : List Recorded) → NoneBelow (suc n) events → Quiet n least events
quiet_later n least events later =
    let none : due_at events n ≡ nothing_due = due_at-later events n later in
    record {
      mark = λ more. has_mark-later n events later;
      transfers = λ more. ap (λ (due : Due). due.transfers) none;
      lines = λ more. ap (λ (due : Due). due.lines) none;
      value = λ more. ap (λ (due : Due). due.value) none;
    }

quiet_here : (n least : ℕ) (event : Event) (events : List Recorded) → least ≤ rank event
    → Quiet n (rank_behind event) events → Quiet n least (record { step = n; event = event } ∷ events)
quiet_here n least Mark events above quiet = record {
  mark = λ more. absurd (omega (arith, above, more));
  transfers = λ more. absurd (omega (arith, above, more));
  lines = λ more. absurd (omega (arith, above, more));
  value = λ more. absurd (omega (arith, above, more));
}
quiet_here n least (Dma t) events above quiet = record {
  mark = λ more. rw (eq-eqb n n refl) (quiet.mark (omega arith));
  transfers = λ more. absurd (omega (arith, above, more));
  lines = λ more. absurd (omega (arith, above, more));
  value = λ more. absurd (omega (arith, above, more));
}
quiet_here n least (Lines set) events above quiet = record {
  mark = λ more. rw (eq-eqb n n refl) (quiet.mark (omega arith));
  transfers = λ more. rw (eq-eqb n n refl) (quiet.transfers (omega arith));
  lines = λ more. absurd (omega (arith, above, more));
  value = λ more. absurd (omega (arith, above, more));
}
quiet_here n least (Value v) events above quiet = record {
  mark = λ more. rw (eq-eqb n n refl) (quiet.mark (omega arith));
  transfers = λ more. rw (eq-eqb n n refl) (quiet.transfers (omega arith));
  lines = λ more. rw (eq-eqb n n refl) (quiet.lines (omega arith));
  value = λ more. absurd (omega (arith, above, more));
}

pub order_is_quiet : (pages n : ℕ) (behind : Behind) (events : List Recorded) (end : ℕ)
    → InOrder pages behind events end
    → behind.step ≡ n → Quiet n behind.least events
order_is_quiet pages n behind [] end order here = quiet_later n behind.least [] tt
order_is_quiet pages n behind (r ∷ events) end order here =
    elim order.0.order [
      | inl above ↦
          let rest = order_is_above pages (behind_it behind r) events end order.1 in
          let later : NoneBelow (suc n) events = none_below_less (suc n) r.step events (omega (arith, above, here)) rest
          in
          quiet_later n behind.least (r ∷ events) (omega (arith, above, here), later)
      | inr same ↦
          let at : n ≡ r.step = sym here ∙ same.0 in
          subst (λ (m : ℕ). Quiet m behind.least (r ∷ events)) (sym at)
          (quiet_here r.step behind.least r.event events same.1
          (order_is_quiet pages r.step (behind_it behind r) events end order.1 refl))
    ]

-- ---- the events of a step

and_false : (t : Bool) → (t && false) ≡ false
and_false true = refl
and_false false = refl

-- an event more of the step, in front of those that may stand behind it
more_here : (marks : Bool) (n : ℕ) (event : Event) (events : List Recorded) → Quiet n (rank_behind event) events
    → at_step marks n events ≡ step_events n (marks && has_mark n events) (due_at events n)
    → at_step marks n (record { step = n; event = event } ∷ events)
    ≡ step_events n (marks && has_mark n (record { step = n; event = event } ∷ events))
    (due_at (record { step = n; event = event } ∷ events) n)
more_here true n Mark events quiet rest =
    rw (eq-eqb n n refl) (ap (λ xs. record { step = n; event = Mark } ∷ xs) (rest ∙ rw (quiet.mark (omega arith)) refl))
more_here false n Mark events quiet rest = rw (eq-eqb n n refl) rest
more_here true n (Dma t) events quiet rest =
    rw (eq-eqb n n refl, quiet.mark (omega arith))
    (ap (λ xs. record { step = n; event = Dma t } ∷ xs) (rest ∙ rw (quiet.mark (omega arith)) refl))
more_here false n (Dma t) events quiet rest =
    rw (eq-eqb n n refl) (ap (λ xs. record { step = n; event = Dma t } ∷ xs) rest)
more_here marks n (Lines set) events quiet rest =
    let none : at_step marks n events ≡ value_events n (due_at events n).value =
    rest ∙ rw (quiet.mark (omega arith), and_false marks, quiet.transfers (omega arith), quiet.lines (omega arith)) refl
    in
    rw (eq-eqb n n refl, quiet.mark (omega arith), and_false marks, quiet.transfers (omega arith))
    (lines_kept marks none)
  where
    lines_kept : (marks : Bool) → at_step marks n events ≡ value_events n (due_at events n).value
        → (if marks || true then record { step = n; event = Lines set } ∷ at_step marks n events else at_step marks n
        events)
        ≡ record { step = n; event = Lines set } ∷ value_events n (due_at events n).value
    lines_kept true none = ap (λ xs. record { step = n; event = Lines set } ∷ xs) none
    lines_kept false none = ap (λ xs. record { step = n; event = Lines set } ∷ xs) none
more_here marks n (Value v) events quiet rest =
    let none : at_step marks n events ≡ [] =
    rest ∙ rw (
      quiet.mark (omega arith),
      and_false marks,
      quiet.transfers (omega arith),
      quiet.lines (omega arith),
      quiet.value (omega arith),
    ) refl in
    rw (
      eq-eqb n n refl,
      quiet.mark (omega arith),
      and_false marks,
      quiet.transfers (omega arith),
      quiet.lines (omega arith),
    ) (value_kept marks none)
  where
    value_kept : (marks : Bool) → at_step marks n events ≡ []
        → (if marks || true then record { step = n; event = Value v } ∷ at_step marks n events else at_step marks n
        events)
        ≡ record { step = n; event = Value v } ∷ []
    value_kept true none = ap (λ xs. record { step = n; event = Value v } ∷ xs) none
    value_kept false none = ap (λ xs. record { step = n; event = Value v } ∷ xs) none

pub events_of_step : (marks : Bool) (pages n : ℕ) (behind : Behind) (events : List Recorded) (end : ℕ)
    → InOrder pages behind events end
    → at_step marks n events ≡ step_events n (marks && has_mark n events) (due_at events n)
events_of_step marks pages n behind [] end order = rw (and_false marks) refl
events_of_step marks pages n behind (r ∷ events) end order =
    let rest = events_of_step marks pages n (behind_it behind r) events end order.1 in
    elim (cases_lt r.step n) [
      | inl below ↦ rw (ne_eqb r.step n (λ same. omega (arith, below, same))) rest
      | inr least ↦ elim (cases_lt n r.step) [
        | inl above ↦
            rw (ne_eqb r.step n (λ same. omega (arith, above, same))) rest
        | inr most ↦
            let at : r.step ≡ n = omega (arith, least, most) in
            let quiet = order_is_quiet pages r.step (behind_it behind r) events end order.1 refl in
            let front : r ≡ record { step = n; event = r.event } = rw (← at) refl in
            subst (λ (x : Recorded). at_step marks n (x ∷ events)
            ≡ step_events n (marks && has_mark n (x ∷ events)) (due_at (x ∷ events) n)) (sym front)
            (more_here marks n r.event events (subst (λ (m : ℕ). Quiet m (rank_behind r.event) events) at quiet) rest)
      ]
    ]

-- ---- one step more of a window

between_none : (a n : ℕ) (events : List Recorded) → NoneBelow n events → events_between a n events ≡ []
between_none a n [] later = refl
between_none a n (r ∷ events) later =
    rw (out a n r.step r.event later.0) (between_none a n events later.1)
  where
    out : (a n step : ℕ) (event : Event) → n ≤ step → is_between a n step event ≡ false
    out a n step Mark least = grind (arith, nat_tests)
    out a n step (Dma t) least = grind (arith, nat_tests)
    out a n step (Lines set) least = grind (arith, nat_tests)
    out a n step (Value v) least = grind (arith, nat_tests)

-- the tests of an event below the step, at it, and above
below_alike : (a n step : ℕ) (event : Event) → step < n → is_between a (suc n) step event ≡ is_between a n step event
below_alike a n step Mark below = grind (arith, nat_tests)
below_alike a n step (Dma t) below = grind (arith, nat_tests)
below_alike a n step (Lines set) below = grind (arith, nat_tests)
below_alike a n step (Value v) below = grind (arith, nat_tests)

above_out : (a n step : ℕ) (event : Event) → n ≤ step → is_between a n step event ≡ false
above_out a n step Mark above = grind (arith, nat_tests)
above_out a n step (Dma t) above = grind (arith, nat_tests)
above_out a n step (Lines set) above = grind (arith, nat_tests)
above_out a n step (Value v) above = grind (arith, nat_tests)

here_alike : (a n : ℕ) (event : Event) → a ≤ n
    → is_between a (suc n) n event ≡ (n == n && (not (n == a) || not (is_mark event)))
here_alike a n Mark from = grind (arith, nat_tests)
here_alike a n (Dma t) from = grind (arith, nat_tests)
here_alike a n (Lines set) from = grind (arith, nat_tests)
here_alike a n (Value v) from = grind (arith, nat_tests)

one_more : (r : Recorded) (t : Bool) (all front back : List Recorded) → all ≡ front ++ back
    → (if t then r ∷ all else all) ≡ (if t then r ∷ front else front) ++ back
one_more r true all front back parts = ap (λ xs. r ∷ xs) parts
one_more r false all front back parts = parts

pub one_step_more : (pages a n : ℕ) (behind : Behind) (events : List Recorded) (end : ℕ)
    → InOrder pages behind events end
    → a ≤ n → events_between a (suc n) events ≡ events_between a n events ++ at_step (not (n == a)) n events
one_step_more pages a n behind [] end order from = refl
one_step_more pages a n behind (r ∷ events) end order from =
    let rest = one_step_more pages a n (behind_it behind r) events end order.1 from in
    elim (cases_lt r.step n) [
      | inl below ↦
          rw (below_alike a n r.step r.event below, ne_eqb r.step n (λ same. omega (arith, below, same)))
          (one_more r (is_between a n r.step r.event) _ _ _ rest)
      | inr least ↦ elim (cases_lt n r.step) [
        | inl above ↦
            rw (above_out a (suc n) r.step r.event (omega (arith, above)), above_out a n r.step r.event least)
            (rw (ne_eqb r.step n (λ same. omega (arith, above, same))) rest)
        | inr most ↦
            let at : r.step ≡ n = omega (arith, least, most) in
            let later : NoneBelow n events = none_below_less n r.step events (omega (arith, at))
            (order_is_above pages (behind_it behind r) events end order.1) in
            let none : events_between a n events ≡ [] = between_none a n events later in
            let all : events_between a (suc n) events ≡ at_step (not (n == a)) n events = rest ∙ rw none refl in
            rw (above_out a n r.step r.event least, none)
            (rw at (rw (here_alike a n r.event from, all) refl))
      ]
    ]

-- What is due to a step, and its mark, go to a window's events.
pub step_more : (pages a n : ℕ) (behind : Behind) (events : List Recorded) (end : ℕ) → InOrder pages behind events end
    → a ≤ n
    → events_between a (suc n) events
    ≡ events_between a n events ++ step_events n (not (n == a) && has_mark n events) (due_at events n)
step_more pages a n behind events end order from =
    one_step_more pages a n behind events end order from
    ∙ ap (λ xs. events_between a n events ++ xs) (events_of_step (not (n == a)) pages n behind events end order)
