-- The last good mark of the records of an input.
use Rattle.std.proofs.Common.{◌≡◌, ℕ, ◌+◌, ◌<◌, ◌≤◌, ◌==◌, ◌&&◌, ◌||◌, nat_le, filter, Bool, true, false, List, [], ◌∷◌}
use Rattle.std.proofs.Common.{◌⊎◌, unwrap_or, Option, None, Some, if◌then◌else◌, inl, inr, refl, ap, ◌∙◌, arith}
use Rattle.std.specs.Option.{option_map}
use Rattle.std.proofs.lemmas.Bool.{cases_lt, eq-eqb, eqb-true, le-leb, lt-leb}
use Rattle.cx_log.specs.Order.{InOrder, at_start, behind_it}
use Rattle.cx_log.specs.Reading.{Opened}
use Rattle.cx_log.specs.Recording.{Recorded}
use Rattle.cx_log.specs.Scan.{Scan, decoded}
use Rattle.cx_log.specs.Text.{recording_text}
use Rattle.cx_log.specs.declared.order.Behind.{Behind}
use Rattle.cx_machine.specs.Step.{Step}
use Rattle.cx_replay.specs.Handing.{last_mark_behind, marked_by_record}
use Rattle.cx_run.specs.Events.{NoneBelow}
use Rattle.cx_run.specs.FirstBad.{Refusal, bad_behind, carried}
use Rattle.cx_run.specs.StepEvents.{has_mark}
use Rattle.cx_run.specs.Window.{is_mark}
use Rattle.cx_run.proofs.LaterEvents.{order_is_above}
use Rattle.cx_salvage.specs.Salvage.{cut_at, saved, saved_by}

neither : (a b : Bool) → (a || b) ≡ false → (a ≡ false) × (b ≡ false)
neither true b is = cc
neither false b is = (refl, is)

apart : (a b : Bool) → (a || b) ≡ true → b ≡ false → a ≡ true
apart true b is none = refl
apart false b is none = cc

pub both : (a b : Bool) → (a && b) ≡ true → (a ≡ true) × (b ≡ true)
both true true is = (refl, refl)
both true false is = cc
both false b is = cc

-- the step of the last mark that is no later than a step, behind one before it
abbrev pub last_up_to : ℕ → Option ℕ → List Recorded → Option ℕ
last_up_to reach marked events = last_mark_behind marked (filter (λ (r : Recorded). nat_le r.step reach) events)

pub choice : (r : Recorded) (marked : Option ℕ) (m n : Bool) → m ≡ n
    → (if m then Some r.step else marked) ≡ (if n then Some r.step else marked)
choice r marked m n same = rw same refl

-- one record more, that is no mark or comes later
passes : (reach : ℕ) (r : Recorded) (events : List Recorded) (marked : Option ℕ) (t : Bool) → nat_le r.step reach ≡ t
    → (t ≡ true → is_mark r.event ≡ false) → last_up_to reach marked (r ∷ events) ≡ last_up_to reach marked events
passes reach r events marked true is none =
    rw is (ap (λ (x : Option ℕ). last_up_to reach x events) (choice r marked (is_mark r.event) false (none refl)))
passes reach r events marked false is none = rw is refl

-- where no mark stands up to a step
pub last_free : (reach low : ℕ) (events : List Recorded) (marked : Option ℕ) → NoneBelow low events
    → ((n : ℕ) → low ≤ n → n ≤ reach → has_mark n events ≡ false) → last_up_to reach marked events ≡ marked
last_free reach low [] marked above free = refl
last_free reach low (r ∷ events) marked above free =
    passes reach r events marked (nat_le r.step reach) refl none
    ∙ last_free reach low events marked above.1
    (λ n from to. (neither (r.step == n && is_mark r.event) (has_mark n events) (free n from to)).1)
  where
    none : nat_le r.step reach ≡ true → is_mark r.event ≡ false
    none within = elim (cases_lt reach r.step) [
      | inl less ↦ absurd (let later = lt-leb r.step reach less in cc)
      | inr most ↦
          let here = (neither (r.step == r.step && is_mark r.event) (has_mark r.step events)
          (free r.step above.0 most)).0 in
          rw (eq-eqb r.step r.step refl) at here
    ]

-- where a mark stands at a step, and none behind it
pub last_here : (pages end reach m : ℕ) (behind : Behind) (events : List Recorded) (marked : Option ℕ)
    → InOrder pages behind events end → has_mark m events ≡ true → m ≤ reach
    → ((n : ℕ) → m < n → n ≤ reach → has_mark n events ≡ false) → last_up_to reach marked events ≡ Some m
last_here pages end reach m behind [] marked order there within free = cc
last_here pages end reach m behind (r ∷ events) marked order there within free =
    by_rest (has_mark m events) refl
    (λ x is. last_here pages end reach m (behind_it behind r) events x order.1 is within later)
  where
    later : (n : ℕ) → m < n → n ≤ reach → has_mark n events ≡ false
    later n from to = (neither (r.step == n && is_mark r.event) (has_mark n events) (free n from to)).1

    more : (t : Bool) → nat_le r.step reach ≡ t → ((x : Option ℕ) → last_up_to reach x events ≡ Some m)
        → last_up_to reach marked (r ∷ events) ≡ Some m
    more true is rest = rw is (rest (marked_by_record r marked))
    more false is rest = rw is (rest marked)

    by_rest : (t : Bool) → has_mark m events ≡ t
        → ((x : Option ℕ) → has_mark m events ≡ true → last_up_to reach x events ≡ Some m)
        → last_up_to reach marked (r ∷ events) ≡ Some m
    by_rest true is again = more (nat_le r.step reach) refl (λ x. again x is)
    by_rest false is again =
        let here = both (r.step == m) (is_mark r.event)
        (apart (r.step == m && is_mark r.event) (has_mark m events) there is) in
        let at : r.step ≡ m = eqb-true r.step m here.0 in
        let above : NoneBelow r.step events = order_is_above pages (behind_it behind r) events end order.1 in
        let rest = last_free reach r.step events (Some r.step) above
        (λ n from to. elim (cases_lt m n) [
          | inl less ↦ later n less to
          | inr most ↦ (let same : n ≡ m = omega (arith, most, from, at) in ap (λ (k : ℕ). has_mark k events) same ∙ is)
        ]) in
        rw (le-leb r.step reach (omega (arith, at, within)))
        (ap (λ (x : Option ℕ). last_up_to reach x events) (choice r marked (is_mark r.event) true here.1) ∙ rest
        ∙ ap (λ (k : ℕ). Some k) at)

-- ---- what is saved

pub saved_to_mark : {Rec : Type 0} (steps : Bool → Step Rec) (o : Opened) (s : Scan) (bad : Refusal) (m last : ℕ)
    → InOrder o.header.pages (at_start o.header.base o.header.start) s.events last
    → bad_behind steps o s ≡ Some bad → has_mark m s.events ≡ true
    → m ≤ o.header.base + carried steps (decoded o s)
    → ((n : ℕ) → m < n → n ≤ o.header.base + carried steps (decoded o s) → has_mark n s.events ≡ false)
    → saved steps o s ≡ Some (recording_text (cut_at m (decoded o s)))
saved_to_mark steps o s bad m last order is there within free =
    ap (saved_by steps o s) is
    ∙ ap (λ (x : Option ℕ). option_map (λ (k : ℕ). recording_text (cut_at k (decoded o s))) x)
    (last_here o.header.pages last (o.header.base + carried steps (decoded o s)) m
    (at_start o.header.base o.header.start) s.events None order there within free)

pub nothing_saved : {Rec : Type 0} (steps : Bool → Step Rec) (o : Opened) (s : Scan) (bad : Refusal) (last : ℕ)
    → InOrder o.header.pages (at_start o.header.base o.header.start) s.events last
    → bad_behind steps o s ≡ Some bad
    → ((n : ℕ) → o.header.base ≤ n → n ≤ o.header.base + carried steps (decoded o s) → has_mark n s.events ≡ false)
    → saved steps o s ≡ None
nothing_saved steps o s bad last order is free =
    ap (saved_by steps o s) is
    ∙ ap (λ (x : Option ℕ). option_map (λ (k : ℕ). recording_text (cut_at k (decoded o s))) x)
    (last_free (o.header.base + carried steps (decoded o s)) o.header.base s.events None
    (order_is_above o.header.pages (at_start o.header.base o.header.start) s.events last order) free)

-- ---- the last good mark is one of the marks

pub later_is : (a b : Bool) → b ≡ true → (a || b) ≡ true
later_is true b is = refl
later_is false b is = is

within_is : (step reach : ℕ) → nat_le step reach ≡ true → step ≤ reach
within_is step reach is = elim (cases_lt reach step) [
  | inl less ↦ absurd (let later = lt-leb step reach less in cc)
  | inr most ↦ most
]

pub last_found : (reach m : ℕ) (events : List Recorded) (marked : Option ℕ) → last_up_to reach marked events ≡ Some m
    → (marked ≡ Some m) ⊎ ((has_mark m events ≡ true) × (m ≤ reach))
last_found reach m [] marked is = inl is
last_found reach m (r ∷ events) marked is =
    by_reach (nat_le r.step reach) refl (λ x e. last_found reach m events x e)
  where
    by_mark : (t : Bool) → is_mark r.event ≡ t → r.step ≤ reach → (if t then Some r.step else marked) ≡ Some m
        → (marked ≡ Some m) ⊎ ((has_mark m (r ∷ events) ≡ true) × (m ≤ reach))
    by_mark true mark within e =
        let same : r.step ≡ m = ap (λ (x : Option ℕ). unwrap_or x 0) e in
        inr (rw (eq-eqb r.step m same, mark) refl, omega (arith, same, within))
    by_mark false mark within e = inl e

    by_reach : (t : Bool) → nat_le r.step reach ≡ t
        → ((x : Option ℕ) → last_up_to reach x events ≡ Some m
        → (x ≡ Some m) ⊎ ((has_mark m events ≡ true) × (m ≤ reach)))
        → (marked ≡ Some m) ⊎ ((has_mark m (r ∷ events) ≡ true) × (m ≤ reach))
    by_reach true reaches rest = elim (rest (marked_by_record r marked) (rw reaches at is)) [
      | inl here ↦ by_mark (is_mark r.event) refl (within_is r.step reach reaches) here
      | inr later ↦ inr (later_is (r.step == m && is_mark r.event) (has_mark m events) later.0, later.1)
    ]
    by_reach false reaches rest = elim (rest marked (rw reaches at is)) [
      | inl here ↦ inl here
      | inr later ↦ inr (later_is (r.step == m && is_mark r.event) (has_mark m events) later.0, later.1)
    ]
