-- The events of a window.
use Rattle.std.proofs.Common.{◌≡◌, ℕ, ◌<◌, ◌≤◌, List, [], ◌∷◌, ◌==◌, ◌&&◌, not, nat_lt, nat_le, filter, Bool, true}
use Rattle.std.proofs.Common.{false, if◌then◌else◌, refl, sym, ◌∙◌, arith}
use Rattle.std.proofs.lemmas.Bool.Decides.{nat_tests}
use Rattle.cx_log.specs.Recording.{Event, Mark, Dma, Lines, Value, Recorded}
use Rattle.cx_machine.specs.Due.{Due}
use Rattle.cx_run.specs.Due.{with_event, due_at}
use Rattle.cx_run.specs.Window.{is_mark, events_between}

abbrev pub is_between : ℕ → ℕ → ℕ → Event → Bool
is_between a b step event = nat_le a step && nat_lt step b && not (is_mark event && step == a)

other_step : (a b n step : ℕ) → a ≤ n → n < b → (nat_le a step && nat_lt step b && true) ≡ false → (step == n) ≡ false
other_step a b n step from to out = grind (arith, nat_tests)

-- An event that the window leaves out is a mark, or of no step of the window.
left_out : (a b n step : ℕ) (event : Event) (due : Due) → a ≤ n → n < b → is_between a b step event ≡ false
    → (if step == n then with_event event due else due) ≡ due
left_out a b n step Mark due from to out = both (step == n)
  where
    both : (t : Bool) → (if t then due else due) ≡ due
    both true = refl
    both false = refl
left_out a b n step (Dma t) due from to out = rw (other_step a b n step from to out) refl
left_out a b n step (Lines set) due from to out = rw (other_step a b n step from to out) refl
left_out a b n step (Value v) due from to out = rw (other_step a b n step from to out) refl

due_at-kept : (a b n : ℕ) (r : Recorded) (events kept : List Recorded) (t : Bool) → a ≤ n → n < b
    → is_between a b r.step r.event ≡ t → due_at kept n ≡ due_at events n
    → due_at (if t then r ∷ kept else kept) n ≡ due_at (r ∷ events) n
due_at-kept a b n r events kept true from to is rest = rw rest refl
due_at-kept a b n r events kept false from to is rest =
    rest ∙ sym (left_out a b n r.step r.event (due_at events n) from to is)

pub due_at-events_between : (a b n : ℕ) (events : List Recorded) → a ≤ n → n < b → due_at (events_between a b events) n
    ≡ due_at events n
due_at-events_between a b n [] from to = refl
due_at-events_between a b n (r ∷ events) from to = due_at-kept a b n r events (events_between a b events)
    (is_between a b r.step r.event) from to refl (due_at-events_between a b n events from to)

-- The tests of a window inside a window.
inner_test : (a b c d step : ℕ) (event : Event) → a ≤ c → d ≤ b → is_between c d step event ≡ true
    → is_between a b step event ≡ true
inner_test a b c d step Mark from to inner = grind (arith, nat_tests)
inner_test a b c d step (Dma t) from to inner = grind (arith, nat_tests)
inner_test a b c d step (Lines set) from to inner = grind (arith, nat_tests)
inner_test a b c d step (Value v) from to inner = grind (arith, nat_tests)

filter_inner : (p q : Recorded → Bool) → ((r : Recorded) → q r ≡ true → p r ≡ true) → (events : List Recorded)
    → filter q (filter p events) ≡ filter q events
filter_inner p q tests [] = refl
filter_inner p q tests (r ∷ events) = by_cases (p r) (q r) refl refl (filter_inner p q tests events)
  where
    by_cases : (s t : Bool) → p r ≡ s → q r ≡ t → filter q (filter p events) ≡ filter q events
        → filter q (if s then r ∷ filter p events else filter p events)
        ≡ (if t then r ∷ filter q events else filter q events)
    by_cases true t is is' rest = rw (is', rest) refl
    by_cases false true is is' rest = absurd (let both : p r ≡ true = tests r is' in cc)
    by_cases false false is is' rest = rest

pub events_between-inner : (a b c d : ℕ) (events : List Recorded) → a ≤ c → d ≤ b
    → events_between c d (events_between a b events) ≡ events_between c d events
events_between-inner a b c d events from to = filter_inner (λ r. is_between a b r.step r.event)
    (λ r. is_between c d r.step r.event) (λ r. inner_test a b c d r.step r.event from to) events
