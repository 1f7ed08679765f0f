-- The interrupt lines that stand before a step.
use Rattle.std.proofs.Common.{◌≡◌, ℕ, suc, ◌<◌, ◌≤◌, List, [], ◌∷◌, ◌==◌, nat_lt, true, false, if◌then◌else◌, None}
use Rattle.std.proofs.Common.{unwrap_or, refl, sym, ap, ◌∙◌, inl, inr, arith}
use Rattle.std.proofs.lemmas.Bool.{cases_order, lt-ltb, le-ltb, eq-eqb, ne_eqb}
use Rattle.cx_csr.specs.declared.lines.Lines as lines
use Rattle.cx_log.specs.Recording.{Event, Mark, Dma, Lines, Value, Recorded}
use Rattle.cx_log.specs.Order.{MayFollow, InOrder, behind_it, rank, rank_behind, lines_behind}
use Rattle.cx_log.specs.declared.order.Behind.{Behind}
use Rattle.cx_machine.specs.Due.{Due, nothing_due}
use Rattle.cx_run.specs.Due.{with_event, due_at}

-- the lines behind the events of the steps below n
abbrev pub lines_before : ℕ → List Recorded → lines.Lines → lines.Lines
lines_before n [] standing = standing
lines_before n (r ∷ events) standing =
    lines_before n events (if nat_lt r.step n then lines_behind standing r.event else standing)

-- The steps of events in order don't fall.
pub order_rises : (pages : ℕ) (behind : Behind) (r : Recorded) → MayFollow pages behind r → behind.step ≤ r.step
order_rises pages behind r may = elim may.order [ inl above ↦ omega arith | inr same ↦ omega (arith, same.0) ]

-- No event lies below the steps that were passed.
pub lines_before-none : (pages n : ℕ) (behind : Behind) (events : List Recorded) (end : ℕ) (standing : lines.Lines)
    → InOrder pages behind events end → n ≤ behind.step → lines_before n events standing ≡ standing
lines_before-none pages n behind [] end standing order past = refl
lines_before-none pages n behind (r ∷ events) end standing order past =
    let rises : behind.step ≤ r.step = order_rises pages behind r order.0 in
    let later : nat_lt r.step n ≡ false = le-ltb r.step n (omega arith) in
    rw later (lines_before-none pages n (behind_it behind r) events end standing order.1 (omega arith))

pub due_at-none : (pages n : ℕ) (behind : Behind) (events : List Recorded) (end : ℕ) → InOrder pages behind events end
    → n < behind.step → due_at events n ≡ nothing_due
due_at-none pages n behind [] end order past = refl
due_at-none pages n behind (r ∷ events) end order past =
    let rises : behind.step ≤ r.step = order_rises pages behind r order.0 in
    let other : (r.step == n) ≡ false = ne_eqb r.step n (λ same. omega arith) in
    rw other (due_at-none pages n (behind_it behind r) events end order.1 (omega arith))

-- At most one event of a step sets the lines.
no_more_lines : (pages n : ℕ) (behind : Behind) (events : List Recorded) (end : ℕ) → InOrder pages behind events end
    → behind.step ≡ n → 3 ≤ behind.least → (due_at events n).lines ≡ None
no_more_lines pages n behind [] end order here least = refl
no_more_lines pages n behind (r ∷ events) end order here least =
    elim order.0.order [
      | inl above ↦
          let other : (r.step == n) ≡ false = ne_eqb r.step n (λ same. omega arith) in
          rw other (ap (λ d. d.lines) (due_at-none pages n (behind_it behind r) events end order.1 (omega arith)))
      | inr same ↦
          let now : r.step ≡ n = sym same.0 ∙ here in
          let now_too : (r.step == n) ≡ true = eq-eqb r.step n now in
          rw now_too (by_event r.event (omega (arith, same.1)) (λ high. no_more_lines pages n (behind_it behind r)
          events end order.1 now high))
    ]
  where
    due : Due
    due = due_at events n

    by_event : (event : Event) → 3 ≤ rank event → (3 ≤ rank_behind event → due.lines ≡ None)
        → (with_event event due).lines ≡ None
    by_event Mark high rest = absurd (omega arith)
    by_event (Dma t) high rest = absurd (omega arith)
    by_event (Lines set) high rest = absurd (omega arith)
    by_event (Value v) high rest = rest (omega arith)

-- One step further: the lines that are due to it, else those that stood.
due_lines_now : (pages n : ℕ) (behind : Behind) (step : ℕ) (event : Event) (events : List Recorded) (end : ℕ)
    (standing : lines.Lines)
    → InOrder pages (behind_it behind (record { step = step; event = event })) events end → step ≡ n
    → ((l : lines.Lines) → lines_before (suc n) events l ≡ unwrap_or (due_at events n).lines (lines_before n events l))
    → lines_before (suc n) events (lines_behind standing event) ≡ unwrap_or (with_event event (due_at events n)).lines
    (lines_before n events standing)
due_lines_now pages n behind step Mark events end standing order now rest = rest standing
due_lines_now pages n behind step (Dma t) events end standing order now rest = rest standing
due_lines_now pages n behind step (Value v) events end standing order now rest = rest standing
due_lines_now pages n behind step (Lines set) events end standing order now rest =
    let last : (due_at events n).lines ≡ None =
    no_more_lines pages n (behind_it behind (record { step = step; event = Lines set })) events end order now
    (omega arith) in
    let stands : lines_before n events set ≡ set =
    lines_before-none pages n (behind_it behind (record { step = step; event = Lines set })) events end set order
    (omega arith) in
    rest set ∙ (rw (last, stands) refl)

one_step_further : (pages n : ℕ) (behind : Behind) (r : Recorded) (events : List Recorded) (end : ℕ)
    (standing : lines.Lines) → InOrder pages (behind_it behind r) events end
    → ((l : lines.Lines) → lines_before (suc n) events l ≡ unwrap_or (due_at events n).lines (lines_before n events l))
    → lines_before (suc n) (r ∷ events) standing ≡ unwrap_or (due_at (r ∷ events) n).lines
    (lines_before n (r ∷ events) standing)
one_step_further pages n behind r events end standing order rest =
    elim (cases_order r.step n) [
      | inl now ↦
          rw (lt-ltb r.step (suc n) (omega arith), le-ltb r.step n (omega arith), eq-eqb r.step n now)
          (due_lines_now pages n behind r.step r.event events end standing order now rest)
      | inr other ↦
          elim other [
            | inl before ↦ rw (
              lt-ltb r.step (suc n) (omega arith),
              lt-ltb r.step n before,
              ne_eqb r.step n (λ same. omega arith),
            ) (rest (lines_behind standing r.event))
            | inr later ↦ rw (
              le-ltb r.step (suc n) (omega arith),
              le-ltb r.step n (omega arith),
              ne_eqb r.step n (λ same. omega arith),
            ) (rest standing)
          ]
    ]

pub lines_before-more : (pages n : ℕ) (behind : Behind) (events : List Recorded) (end : ℕ) (standing : lines.Lines)
    → InOrder pages behind events end
    → lines_before (suc n) events standing ≡ unwrap_or (due_at events n).lines (lines_before n events standing)
lines_before-more pages n behind [] end standing order = refl
lines_before-more pages n behind (r ∷ events) end standing order =
    one_step_further pages n behind r events end standing order.1 (λ l. lines_before-more pages n (behind_it behind r)
    events end l order.1)
