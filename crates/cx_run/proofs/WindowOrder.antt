-- The events of a window keep the rules of order.
use Rattle.std.proofs.Common.{◌≡◌, ℕ, ◌^◌, ◌<◌, ◌≤◌, ◌⊎◌, List, [], ◌∷◌, ◌==◌, ◌&&◌, not, nat_le, nat_lt, Bool, true}
use Rattle.std.proofs.Common.{false, refl, inl, inr, arith}
use Rattle.std.proofs.lemmas.Bool.{cases_lt, cases_Bool, lt-ltb, le-ltb, le-leb, lt-leb, eq-eqb, ne_eqb}
use Rattle.cx_csr.specs.declared.lines.Lines as lines
use Rattle.cx_log.specs.Recording.{Event, Mark, Dma, Lines, Value, Recorded}
use Rattle.cx_log.specs.Order.{next_mark, MarkRule, MayFollow, MayEnd, InOrder, behind_it, rank, mark_behind}
use Rattle.cx_log.specs.Order.{lines_behind}
use Rattle.cx_log.specs.declared.order.Behind.{Behind}
use Rattle.cx_run.specs.Window.{is_mark, events_between}
use Rattle.cx_run.proofs.Events.{is_between}
use Rattle.cx_run.proofs.StandingLines.{lines_before, lines_before-none, order_rises}

-- A recording ends at a number of 49 bits, above the steps that were passed.
pub order_ends : (pages : ℕ) (behind : Behind) (events : List Recorded) (end : ℕ) → InOrder pages behind events end
    → (end ≤ 2 ^ 48) × (behind.step < end)
order_ends pages behind [] end order = (order.small, order.above)
order_ends pages behind (r ∷ events) end order =
    let rest = order_ends pages (behind_it behind r) events end order.1 in
    let rises : behind.step ≤ r.step = order_rises pages behind r order.0 in
    (rest.0, omega (arith, rest.1))

-- The next mark is that of the last step that was passed.
pub mark_stays : (mark before step : ℕ) (event : Event) → mark ≡ next_mark before → before ≤ step
    → MarkRule mark step event → mark_behind mark event ≡ next_mark step
mark_stays mark before step Mark is rises rule = omega arith
mark_stays mark before step (Dma t) is rises rule = omega arith
mark_stays mark before step (Lines set) is rises rule = omega arith
mark_stays mark before step (Value v) is rises rule = omega arith

pub not_past_mark : (mark step : ℕ) (event : Event) → MarkRule mark step event → step ≤ mark
not_past_mark mark step Mark rule = omega arith
not_past_mark mark step (Dma t) rule = omega arith
not_past_mark mark step (Lines set) rule = omega arith
not_past_mark mark step (Value v) rule = omega arith

-- What the window leaves out, and what it keeps.
pub out_before : (a b step : ℕ) (event : Event) → step < a → is_between a b step event ≡ false
out_before a b step event less = rw (lt-leb a step less) refl

pub out_behind : (a b step : ℕ) (event : Event) → b ≤ step → is_between a b step event ≡ false
out_behind a b step event most = rw (le-ltb step b most) (no_and (nat_le a step))
  where
    no_and : (t : Bool) → (t && false && not (is_mark event && step == a)) ≡ false
    no_and true = refl
    no_and false = refl

pub out_mark : (a b step : ℕ) (event : Event) → is_mark event ≡ true → step ≡ a → is_between a b step event ≡ false
out_mark a b step event mark here = rw (mark, eq-eqb step a here) (no_and (nat_le a step && nat_lt step b))
  where
    no_and : (t : Bool) → (t && false) ≡ false
    no_and true = refl
    no_and false = refl

pub kept : (a b step : ℕ) (event : Event) → a ≤ step → step < b → (is_mark event ≡ true → a < step)
    → is_between a b step event ≡ true
kept a b step event from to no_mark = rw (le-leb a step from, lt-ltb step b to) (by_kind (is_mark event) refl)
  where
    by_kind : (t : Bool) → is_mark event ≡ t → (true && true && not (t && step == a)) ≡ true
    by_kind false is = refl
    by_kind true is = let later : a < step = no_mark is in rw (ne_eqb step a (λ same. omega arith)) refl

mark_is_there : (mark step : ℕ) (event : Event) → MarkRule mark step event → is_mark event ≡ true → step ≡ mark
mark_is_there mark step Mark rule is = rule
mark_is_there mark step (Dma t) rule is = absurd (cc)
mark_is_there mark step (Lines set) rule is = absurd (cc)
mark_is_there mark step (Value v) rule is = absurd (cc)

order_keeps : (pages a b : ℕ) (new : Behind) (r : Recorded) (events : List Recorded)
    → is_between a b r.step r.event ≡ true → MayFollow pages new r
    → InOrder pages (behind_it new r) (events_between a b events) b
    → InOrder pages new (events_between a b (r ∷ events)) b
order_keeps pages a b new r events test may rest = let both : InOrder pages new (r ∷ events_between a b events) b =
    (may, rest) in rw test both

order_skips : (pages a b : ℕ) (new : Behind) (r : Recorded) (events : List Recorded)
    → is_between a b r.step r.event ≡ false → InOrder pages new (events_between a b events) b
    → InOrder pages new (events_between a b (r ∷ events)) b
order_skips pages a b new r events test rest = rw test rest

-- Once the window's end is reached, all is left out.
pub none_between : (pages a b : ℕ) (behind : Behind) (events : List Recorded) (end : ℕ)
    → InOrder pages behind events end → b ≤ behind.step → events_between a b events ≡ []
none_between pages a b behind [] end order past = refl
none_between pages a b behind (r ∷ events) end order past =
    let rises : behind.step ≤ r.step = order_rises pages behind r order.0 in
    rw (out_behind a b r.step r.event (omega arith)) (none_between pages a b (behind_it behind r) events end order.1
    (omega arith))

-- The first event behind the window.
ends_here : (pages a b : ℕ) (behind new : Behind) (r : Recorded) (events : List Recorded) (end : ℕ)
    → InOrder pages behind (r ∷ events) end → b ≤ r.step → new.step < b → behind.mark ≤ new.mark
    → InOrder pages new (events_between a b (r ∷ events)) b
ends_here pages a b behind new r events end order past above marks =
    let not_past : r.step ≤ behind.mark = not_past_mark behind.mark r.step r.event order.0.marks in
    let small : r.step < 2 ^ 48 = order.0.small in
    let last : MayEnd new b = record { small = omega arith; above = above; marks = omega arith } in
    rw (out_behind a b r.step r.event past, none_between pages a b (behind_it behind r) events end order.1 past) last

-- From a step inside the window on.
inside : (pages a b : ℕ) (behind : Behind) (events : List Recorded) (end : ℕ) → InOrder pages behind events end
    → a ≤ behind.step → behind.step < b → b ≤ end → behind.mark ≡ next_mark behind.step
    → InOrder pages behind (events_between a b events) b
inside pages a b behind [] end order from to least mark = record {
  small = omega (arith, order.small);
  above =
      to;
  marks = omega (arith, order.marks);
}
inside pages a b behind (r ∷ events) end order from to least mark =
    let rises : behind.step ≤ r.step = order_rises pages behind r order.0 in
    let rule : MarkRule behind.mark r.step r.event = order.0.marks in
    let no_mark : is_mark r.event ≡ true → a < r.step = λ is. (let there : r.step ≡ behind.mark =
    mark_is_there behind.mark r.step r.event rule is in omega arith) in
    elim (cases_lt r.step b) [
      | inl below ↦
          order_keeps pages a b behind r events (kept a b r.step r.event (omega arith) below no_mark) order.0
          (inside pages a b (behind_it behind r) events end order.1 (omega arith) below least
          (mark_stays behind.mark behind.step r.step r.event mark rises rule))
      | inr past ↦ ends_here pages a b behind behind r events end order past to (omega arith)
    ]

-- What the window's own machine has behind it: nothing, at the window's first step.
abbrev pub at_window : ℕ → lines.Lines → Behind
at_window a standing = record { step = a; least = 0; mark = next_mark a; lines = standing }

-- The first event that the window keeps.
first_inside : (pages a b : ℕ) (behind : Behind) (r : Recorded) (events : List Recorded) (end : ℕ)
    → InOrder pages behind (r ∷ events) end → behind.step ≤ a → a ≤ r.step → r.step < b → b ≤ end
    → behind.mark ≡ next_mark behind.step
    → (is_mark r.event ≡ true → a < r.step) → InOrder pages (at_window a behind.lines) (events_between a b (r ∷ events))
    b
first_inside pages a b behind r events end order before from to least mark no_mark =
    let rule : MarkRule behind.mark r.step r.event = order.0.marks in
    let same_mark : next_mark a ≡ behind.mark = same_next_mark behind.mark behind.step a r.step r.event mark before from
    rule no_mark in
    let may : MayFollow pages (record { step = a; least = 0; mark = behind.mark; lines = behind.lines }) r =
    record { small = order.0.small; order = first_order; marks = rule; holds = order.0.holds } in
    rw same_mark
    (order_keeps pages a b (record { step = a; least = 0; mark = behind.mark; lines = behind.lines }) r events
    (kept a b r.step r.event from to no_mark) may
    (inside pages a b (behind_it behind r) events end order.1 from to least (mark_stays behind.mark behind.step r.step
    r.event mark (omega arith) rule)))
  where
    first_order : (a < r.step) ⊎ ((a ≡ r.step) × (0 ≤ rank r.event))
    first_order = elim (cases_lt a r.step) [ inl less ↦ inl less | inr most ↦ inr (omega arith, omega arith) ]

    same_next_mark : (mark' passed start step : ℕ) (event : Event) → mark' ≡ next_mark passed → passed ≤ start
        → start ≤ step → MarkRule mark' step event → (is_mark event ≡ true → start < step) → next_mark start ≡ mark'
    same_next_mark mark' passed start step Mark is lower upper rule later = let above : start < step = later refl in
        omega arith
    same_next_mark mark' passed start step (Dma t) is lower upper rule later = omega arith
    same_next_mark mark' passed start step (Lines set) is lower upper rule later = omega arith
    same_next_mark mark' passed start step (Value v) is lower upper rule later = omega arith

mark_sets_no_lines : (standing : lines.Lines) (event : Event) → is_mark event ≡ true
    → lines_behind standing event ≡ standing
mark_sets_no_lines standing Mark is = refl
mark_sets_no_lines standing (Dma t) is = refl
mark_sets_no_lines standing (Lines set) is = absurd (cc)
mark_sets_no_lines standing (Value v) is = refl

-- An event at the window's first step or later, that isn't a mark at that step.
stands_at : (pages a b : ℕ) (behind : Behind) (r : Recorded) (events : List Recorded) (end : ℕ)
    → InOrder pages behind (r ∷ events) end → behind.step ≤ a → a < b → b ≤ end → behind.mark ≡ next_mark behind.step
    → a ≤ r.step → (is_mark r.event ≡ true → a < r.step)
    → InOrder pages (at_window a (lines_before a (r ∷ events) behind.lines)) (events_between a b (r ∷ events)) b
stands_at pages a b behind r events end order before some least mark from no_mark =
    let stand : lines_before a events behind.lines ≡ behind.lines =
    lines_before-none pages a (behind_it behind r) events end behind.lines order.1 from in
    rw (le-ltb r.step a from, stand)
    (elim (cases_lt r.step b) [
      | inl below ↦ first_inside pages a b behind r events end order before from below least mark no_mark
      | inr past ↦ ends_here pages a b behind (at_window a behind.lines) r events end order past some (omega arith)
    ])

-- A mark at the window's first step.
passes_mark : (pages a b : ℕ) (behind : Behind) (r : Recorded) (events : List Recorded) → is_mark r.event ≡ true
    → r.step ≡ a
    → InOrder pages (at_window a (lines_before a events (lines_behind behind.lines r.event)))
    (events_between a b events) b
    → InOrder pages (at_window a (lines_before a (r ∷ events) behind.lines)) (events_between a b (r ∷ events)) b
passes_mark pages a b behind r events is here rest =
    let same : InOrder pages (at_window a (lines_before a events behind.lines)) (events_between a b events) b =
    rw (mark_sets_no_lines behind.lines r.event is) at rest in
    rw (le-ltb r.step a (omega arith)) (order_skips pages a b (at_window a (lines_before a events behind.lines)) r
    events (out_mark a b r.step r.event is here) same)

passes_earlier : (pages a b : ℕ) (behind : Behind) (r : Recorded) (events : List Recorded) → r.step < a
    → InOrder pages (at_window a (lines_before a events (lines_behind behind.lines r.event)))
    (events_between a b events) b
    → InOrder pages (at_window a (lines_before a (r ∷ events) behind.lines)) (events_between a b (r ∷ events)) b
passes_earlier pages a b behind r events less rest =
    rw (lt-ltb r.step a less)
    (order_skips pages a b (at_window a (lines_before a events (lines_behind behind.lines r.event))) r events
    (out_before a b r.step r.event less) rest)

-- The events of the steps from a on and below b, without a mark at a, are in order behind the window's first machine,
-- with the lines that stand before step a.
pub InOrder-events_between : (pages a b : ℕ) (behind : Behind) (events : List Recorded) (end : ℕ)
    → InOrder pages behind events end → behind.step ≤ a → a < b → b ≤ end → behind.mark ≡ next_mark behind.step
    → InOrder pages (at_window a (lines_before a events behind.lines)) (events_between a b events) b
InOrder-events_between pages a b behind [] end order before some least mark =
    record { small = omega (arith, order.small); above = some; marks = omega (arith, order.marks) }
InOrder-events_between pages a b behind (r ∷ events) end order before some least mark =
    let rises : behind.step ≤ r.step = order_rises pages behind r order.0 in
    let rest : r.step ≤ a → InOrder pages (at_window a (lines_before a events (lines_behind behind.lines r.event)))
    (events_between a b events) b =
    λ passed. InOrder-events_between pages a b (behind_it behind r) events end order.1 passed some least
    (mark_stays behind.mark behind.step r.step r.event mark rises order.0.marks) in
    elim (cases_lt r.step a) [
      | inl less ↦ passes_earlier pages a b behind r events less (rest (omega arith))
      | inr from ↦
          elim (cases_lt a r.step) [
            | inl above ↦ stands_at pages a b behind r events end order before some least mark from (λ is. above)
            | inr here ↦
                elim (cases_Bool (is_mark r.event)) [
                  | inl is ↦ passes_mark pages a b behind r events is (omega arith) (rest here)
                  | inr other ↦ stands_at pages a b behind r events end order before some least mark from
                      (λ is. absurd (cc))
                ]
          ]
    ]
