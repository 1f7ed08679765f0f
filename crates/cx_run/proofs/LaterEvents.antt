-- A run depends on no later event.
use Rattle.std.proofs.Common.{◌≡◌, ℕ, zero, suc, ◌+◌, ◌<◌, ◌≤◌, List, [], ◌∷◌, ◌++◌, ◌==◌, Option, None, Some, IsSome}
use Rattle.std.proofs.Common.{if◌then◌else◌, refl, ap, ◌∙◌, inl, inr, arith}
use Rattle.std.proofs.lemmas.Bool.{cases_lt, ne_eqb}
use Rattle.cx_log.specs.Order.{InOrder, behind_it}
use Rattle.cx_log.specs.declared.order.Behind.{Behind}
use Rattle.cx_log.specs.Recording.{Recorded, Recording}
use Rattle.cx_machine.specs.Due.{Due, nothing_due}
use Rattle.cx_machine.specs.Step.{Step}
use Rattle.cx_run.specs.Due.{due_at, with_event}
use Rattle.cx_run.specs.Events.{BeginAlike, NoneBelow}
use Rattle.cx_run.specs.Run.{built_steps, run_of}
use Rattle.cx_run.proofs.BuiltSteps.{run_of-built_steps, run_of-past_built_steps, run_of-within}
use Rattle.cx_run.proofs.BuiltSteps.{within_built_steps}
use Rattle.cx_run.proofs.StandingLines.{order_rises}

-- ---- what is due

pub due_at-later : (events : List Recorded) (n : ℕ) → NoneBelow (suc n) events → due_at events n ≡ nothing_due
due_at-later [] n later = refl
due_at-later (r ∷ events) n later = rw (ne_eqb r.step n (λ same. omega (arith, later.0)))
    (due_at-later events n later.1)

pub due_at-front : (events more : List Recorded) (n : ℕ) → NoneBelow (suc n) more
    → due_at (events ++ more) n ≡ due_at events n
due_at-front [] more n later = due_at-later more n later
due_at-front (r ∷ events) more n later = ap (λ (due : Due). if r.step == n then with_event r.event due else due)
    (due_at-front events more n later)

pub none_below_less : (m n : ℕ) (events : List Recorded) → m ≤ n → NoneBelow n events → NoneBelow m events
none_below_less m n [] least later = tt
none_below_less m n (r ∷ events) least later = (omega (arith, later.0), none_below_less m n events least later.1)

pub order_is_above : (pages : ℕ) (behind : Behind) (events : List Recorded) (end : ℕ) → InOrder pages behind events end
    → NoneBelow behind.step events
order_is_above pages behind [] end order = tt
order_is_above pages behind (r ∷ events) end order =
    let rises : behind.step ≤ r.step = order_rises pages behind r order.0 in (
      rises,
      none_below_less behind.step r.step events rises (order_is_above pages (behind_it behind r) events end
          order.1),
    )

-- ---- runs

alike_before : (R S : Recording) (n : ℕ) → BeginAlike R S (suc n) → BeginAlike R S n
alike_before R S n alike = record {
  base = alike.base;
  start = alike.start;
  memory = alike.memory;
  due =
      λ k below. alike.due k (omega arith);
}

pub run_of-alike : {Rec : Type 0} (step : Step Rec) (R S : Recording) (n : ℕ) → BeginAlike R S n
    → run_of step S n ≡ run_of step R n
run_of-alike step R S zero alike = rw (alike.start, alike.memory) refl
run_of-alike step R S (suc n) alike =
    rw (alike.base, alike.due n (omega arith), run_of-alike step R S n (alike_before R S n alike)) refl

pub more_begins_alike : (R : Recording) (more : List Recorded) (n : ℕ) → NoneBelow (R.base + n) more
    → BeginAlike R (record R { events = R.events ++ more }) n
more_begins_alike R more n later = record {
  base = refl;
  start = refl;
  memory = refl;
  due = λ k below. due_at-front R.events more (R.base + k) (none_below_less (suc (R.base + k)) (R.base + n) more
      (omega arith) later);
}

-- ---- how far a run goes

none_stays : {X : Type 0} (o : Option X) → o ≡ None → IsSome o → ⊥
none_stays None is some = absurd (cc)
none_stays (Some x) is some = absurd (cc)

-- The run of k steps is there and that of one more isn't.
pub built_here : {Rec : Type 0} (step : Step Rec) (R : Recording) (k n : ℕ) → k ≤ n → IsSome (run_of step R k)
    → run_of step R (suc k) ≡ None → built_steps step R n ≡ k
built_here step R k n least here stops =
    let so_far : k ≤ built_steps step R n = within_built_steps step R k n least here in
    elim (cases_lt k (built_steps step R n)) [
      | inl more ↦ absurd (none_stays (run_of step R (suc k)) stops (run_of-within step R (suc k) n (omega arith)))
      | inr most ↦ omega arith
    ]

pub break_stays : {Rec : Type 0} (step : Step Rec) (R S : Recording) (m n : ℕ) → BeginAlike R S m
    → built_steps step R m < m → m ≤ n → built_steps step S n ≡ built_steps step R m
break_stays step R S m n alike fewer least =
    let k : ℕ = built_steps step R m in
    let up_to = λ (j : ℕ) (within : j ≤ m). run_of-alike step R S j (record {
      base = alike.base;
      start =
          alike.start;
      memory = alike.memory;
      due = λ i below. alike.due i (omega arith);
    }) in
    built_here step S k n (omega arith) (rw (up_to k (omega arith)) (run_of-built_steps step R m))
    (up_to (suc k) (omega arith) ∙ run_of-past_built_steps step R m fewer)
