-- What of an input stands fast, whatever follows: the text up to its last good mark.
use Rattle.std.proofs.Common.{◌≡◌, ℕ, zero, suc, ◌+◌, ◌-◌, ◌<◌, ◌≤◌, ◌==◌, ◌&&◌, ◌||◌, nat_le, not, Bool}
use Rattle.std.proofs.Common.{true, false, List, [], ◌∷◌, ◌++◌, Option, None, Some, if◌then◌else◌, inl, inr, refl, ap, sym}
use Rattle.std.proofs.Common.{◌⊎◌, subst, ◌∙◌, arith, append_assoc}
use Rattle.std.proofs.lemmas.Bool.{cases_lt, eqb-true, le-leb}
use Rattle.std.proofs.lemmas.List.{append-nil}
use Rattle.cx_codec.specs.Reads.{Begins}
use Rattle.cx_log.specs.Order.{InOrder, MarkRule, at_start, behind_it, next_mark}
use Rattle.cx_log.specs.Reading.{Opened}
use Rattle.cx_log.specs.Recording.{Event, Mark, Dma, Lines, Value, Recorded, Recording}
use Rattle.cx_log.specs.Scan.{Scan, decoded}
use Rattle.cx_log.specs.Text.{end_text, header_of, header_text, pages_text, recording_text}
use Rattle.cx_log.specs.declared.order.Behind.{Behind}
use Rattle.cx_machine.specs.Step.{Step}
use Rattle.cx_run.specs.Due.{due_at}
use Rattle.cx_run.specs.FirstBad.{carried}
use Rattle.cx_run.specs.SoFar.{behind_all, events_text}
use Rattle.cx_run.specs.StepEvents.{has_mark, step_events}
use Rattle.cx_run.specs.Window.{events_between, is_mark}
use Rattle.cx_run.proofs.LaterEvents.{order_is_above}
use Rattle.cx_run.proofs.StandingLines.{order_rises}
use Rattle.cx_run.proofs.StepEvents.{step_more}
use Rattle.cx_run.proofs.TextSoFar.{records_by_parts, text_on}
use Rattle.cx_run.proofs.WindowOrder.{kept as kept_between, order_ends, out_before, out_behind}
use Rattle.cx_replay.specs.Handing.{marked_by_record}
use Rattle.cx_salvage.specs.Salvage.{cut_at, kept, kept_by, open_text, text_to}
use Rattle.cx_salvage.proofs.Marks.{both, choice, last_free, last_here, last_up_to}

-- ---- where marks stand

first_mark : (base : ℕ) → base < next_mark base
first_mark base = omega arith

-- the first mark is where one has to stand
pub mark_least : (pages end m : ℕ) (behind : Behind) (events : List Recorded) → InOrder pages behind events end
    → has_mark m events ≡ true → behind.mark ≤ m
mark_least pages end m behind [] order there = cc
mark_least pages end m behind (r ∷ events) order there =
    by_event r.event order.0.marks (mark_least pages end m (behind_it behind r) events order.1) there
  where
    either : (a b : Bool) → (a || b) ≡ true → (a ≡ true) ⊎ (b ≡ true)
    either true b is = inl refl
    either false b is = inr is

    by_event : (event : Event) → MarkRule behind.mark r.step event
        → (has_mark m events ≡ true → (behind_it behind (record { step = r.step; event = event })).mark ≤ m)
        → has_mark m (record { step = r.step; event = event } ∷ events) ≡ true → behind.mark ≤ m
    by_event Mark rule rest there = elim (either (r.step == m && true) (has_mark m events) there) [
      | inl here ↦ (let at = eqb-true r.step m (both (r.step == m) true here).0 in omega (arith, at, rule))
      | inr later ↦ (let more = rest later in omega (arith, more))
    ]
    by_event (Dma t) rule rest there = elim (either (r.step == m && false) (has_mark m events) there) [
      | inl here ↦ absurd (let wrong = (both (r.step == m) false here).1 in cc)
      | inr later ↦ rest later
    ]
    by_event (Lines set) rule rest there = elim (either (r.step == m && false) (has_mark m events) there) [
      | inl here ↦ absurd (let wrong = (both (r.step == m) false here).1 in cc)
      | inr later ↦ rest later
    ]
    by_event (Value v) rule rest there = elim (either (r.step == m && false) (has_mark m events) there) [
      | inl here ↦ absurd (let wrong = (both (r.step == m) false here).1 in cc)
      | inr later ↦ rest later
    ]

-- none stands at the first step
pub mark_above : (o : Opened) (s : Scan) (last m : ℕ)
    → InOrder o.header.pages (at_start o.header.base o.header.start) s.events last → has_mark m s.events ≡ true
    → o.header.base < m
mark_above o s last m order there =
    let least = mark_least o.header.pages last m (at_start o.header.base o.header.start) s.events order there in
    let first = first_mark o.header.base in
    omega (arith, least, first)

-- ---- records up to a step

pub none_yet : (a : ℕ) (events : List Recorded) → events_between a a events ≡ []
none_yet a [] = refl
none_yet a (r ∷ events) = elim (cases_lt r.step a) [
  | inl less ↦ rw (out_before a a r.step r.event less) (none_yet a events)
  | inr most ↦ rw (out_behind a a r.step r.event most) (none_yet a events)
]

-- the records of so many steps more
steps_more : (pages a n count : ℕ) (behind : Behind) (events : List Recorded) (end : ℕ)
    → InOrder pages behind events end → a ≤ n
    → (more : List Recorded) × (events_between a (n + count) events ≡ events_between a n events ++ more)
steps_more pages a n zero behind events end order from =
    let same : n + zero ≡ n = omega arith in
    ([], ap (λ (m : ℕ). events_between a m events) same ∙ sym (append-nil (events_between a n events)))
steps_more pages a n (suc count) behind events end order from =
    let rest = steps_more pages a n count behind events end order from in
    let at : ℕ = n + count in
    let here : List Recorded = step_events at (not (at == a) && has_mark at events) (due_at events at) in
    let next : n + suc count ≡ suc at = omega arith in (
      rest.0 ++ here,
      ap (λ (m : ℕ). events_between a m events) next
          ∙ step_more pages a at behind events end order (omega (arith, from))
          ∙ ap (λ (xs : List Recorded). xs ++ here) rest.1 ∙ append_assoc (events_between a n events) rest.0 here,
    )

mark_later : (mark step a : ℕ) (event : Event) → MarkRule mark step event → a < mark → is_mark event ≡ true → a < step
mark_later mark step a Mark rule above is = omega (arith, rule, above)
mark_later mark step a (Dma t) rule above is = absurd (cc)
mark_later mark step a (Lines set) rule above is = absurd (cc)
mark_later mark step a (Value v) rule above is = absurd (cc)

mark_grows : (behind : Behind) (step : ℕ) (event : Event)
    → behind.mark ≤ (behind_it behind (record { step = step; event = event })).mark
mark_grows behind step Mark = omega arith
mark_grows behind step (Dma t) = omega arith
mark_grows behind step (Lines set) = omega arith
mark_grows behind step (Value v) = omega arith

-- up to the end all of them
all_between : (pages a : ℕ) (behind : Behind) (events : List Recorded) (end : ℕ) → InOrder pages behind events end
    → a ≤ behind.step → a < behind.mark → events_between a end events ≡ events
all_between pages a behind [] end order from above = refl
all_between pages a behind (r ∷ events) end order from above =
    let rises = order_rises pages behind r order.0 in
    let ends = order_ends pages (behind_it behind r) events end order.1 in
    rw (kept_between a end r.step r.event (omega (arith, from, rises)) ends.1
    (mark_later behind.mark r.step a r.event order.0.marks above))
    (ap (λ (es : List Recorded). r ∷ es) (all_between pages a (behind_it behind r) events end order.1
    (omega (arith, from, rises)) (let more = mark_grows behind r.step r.event in omega (arith, above, more))))

pub cut_whole : (o : Opened) (s : Scan)
    → InOrder o.header.pages (at_start o.header.base o.header.start) s.events s.upto
    → cut_at s.upto (decoded o s) ≡ decoded o s
cut_whole o s order =
    ap (λ (es : List Recorded). record (decoded o s) { events = es })
    (all_between o.header.pages o.header.base (at_start o.header.base o.header.start) s.events s.upto order
    (omega arith) (first_mark o.header.base))

-- ---- texts

pub closed_text : (R : Recording)
    → open_text R ++ end_text (behind_all (at_start R.base R.start) R.events).step R.end ≡ recording_text R
unfolding recording_text
closed_text R =
    let start : Behind = at_start R.base R.start in
    let header : List ℕ = header_text (header_of R) in
    let pages : List ℕ = pages_text R.memory R.pages in
    let end : List ℕ = end_text (behind_all start R.events).step R.end in
    append_assoc (header ++ pages) (events_text start R.events) end
    ∙ append_assoc header pages (events_text start R.events ++ end)
    ∙ ap (λ (t : List ℕ). header ++ (pages ++ t)) (sym (records_by_parts start R.events R.end))

-- up to a later step it begins as up to an earlier one
pub text_grows : (o : Opened) (s : Scan) (m n last : ℕ)
    → InOrder o.header.pages (at_start o.header.base o.header.start) s.events last → o.header.base ≤ m → m ≤ n
    → Begins (text_to o s m) (text_to o s n)
text_grows o s m n last order from to =
    let base : ℕ = o.header.base in
    let start : Behind = at_start base o.header.start in
    let front : List ℕ = header_text (header_of (decoded o s)) ++ pages_text o.memory o.header.pages in
    let first : List Recorded = events_between base m s.events in
    let more = steps_more o.header.pages base m (n - m) start s.events last order from in
    let count : n ≡ m + (n - m) = omega (arith, to) in
    let all : events_between base n s.events ≡ first ++ more.0 =
    ap (λ (k : ℕ). events_between base k s.events) count ∙ more.1 in
    record {
      rest = events_text (behind_all start first) more.0;
      parts = ap (λ (es : List Recorded). front ++ events_text start es) all
          ∙ ap (λ (t : List ℕ). front ++ t) (text_on start first more.0)
          ∙ sym (append_assoc front (events_text start first) (events_text (behind_all start first) more.0));
    }

-- the events of more steps, where those up to one were written
pub text_more : (o : Opened) (s : Scan) (m n : ℕ) (more : List Recorded)
    → events_between o.header.base n s.events ≡ events_between o.header.base m s.events ++ more
    → text_to o s n ≡ text_to o s m
    ++ events_text (behind_all (at_start o.header.base o.header.start) (events_between o.header.base m s.events)) more
text_more o s m n more all =
    let base : ℕ = o.header.base in
    let start : Behind = at_start base o.header.start in
    let front : List ℕ = header_text (header_of (decoded o s)) ++ pages_text o.memory o.header.pages in
    let first : List Recorded = events_between base m s.events in
    ap (λ (es : List Recorded). front ++ events_text start es) all
    ∙ ap (λ (t : List ℕ). front ++ t) (text_on start first more)
    ∙ sym (append_assoc front (events_text start first) (events_text (behind_all start first) more))

pub text_first : (o : Opened) (s : Scan)
    → text_to o s o.header.base ≡ header_text (header_of (decoded o s)) ++ pages_text o.memory o.header.pages
text_first o s =
    let start : Behind = at_start o.header.base o.header.start in
    let front : List ℕ = header_text (header_of (decoded o s)) ++ pages_text o.memory o.header.pages in
    ap (λ (es : List Recorded). front ++ events_text start es) (none_yet o.header.base s.events) ∙ append-nil front

-- ---- the last good mark

-- a record more, up to a step
one_more : (reach : ℕ) (r : Recorded) (events : List Recorded) (marked : Option ℕ) (mark : Bool)
    → nat_le r.step reach ≡ true → is_mark r.event ≡ mark
    → last_up_to reach marked (r ∷ events) ≡ last_up_to reach (if mark then Some r.step else marked) events
one_more reach r events marked mark within is =
    rw within (ap (λ (x : Option ℕ). last_up_to reach x events) (choice r marked (is_mark r.event) mark is))

-- a mark that isn't before another
abbrev LastFrom : ℕ → Option ℕ → Type 0
LastFrom k found = (m : ℕ) × ((found ≡ Some m) × (k ≤ m))

-- no mark is of an earlier step than one that was seen
last_rises : (pages end reach k : ℕ) (behind : Behind) (events : List Recorded) → InOrder pages behind events end
    → k ≤ behind.step → (m : ℕ) × ((last_up_to reach (Some k) events ≡ Some m) × (k ≤ m))
last_rises pages end reach k behind [] order from = (k, (refl, omega arith))
last_rises pages end reach k behind (r ∷ events) order from =
    let rises = order_rises pages behind r order.0 in
    let next = last_rises pages end reach r.step (behind_it behind r) events order.1 (omega arith) in
    by_tests (nat_le r.step reach) (is_mark r.event) refl refl
    (last_rises pages end reach k (behind_it behind r) events order.1 (omega (arith, from, rises)))
    (next.0, (next.1.0, (let more = next.1.1 in omega (arith, from, rises, more))))
  where
    by_tests : (a b : Bool) → nat_le r.step reach ≡ a → is_mark r.event ≡ b
        → ((m : ℕ) × ((last_up_to reach (Some k) events ≡ Some m) × (k ≤ m)))
        → ((m : ℕ) × ((last_up_to reach (Some r.step) events ≡ Some m) × (k ≤ m)))
        → (m : ℕ) × ((last_up_to reach (Some k) (r ∷ events) ≡ Some m) × (k ≤ m))
    by_tests false b within mark same next = rw within same
    by_tests true true within mark same next =
        subst (LastFrom k) (sym (one_more reach r events (Some k) true within mark)) next
    by_tests true false within mark same next =
        subst (LastFrom k) (sym (one_more reach r events (Some k) false within mark)) same

-- the last mark up to a step isn't before any other
pub last_reaches : (pages end reach m : ℕ) (behind : Behind) (events : List Recorded) (marked : Option ℕ)
    → InOrder pages behind events end → has_mark m events ≡ true → m ≤ reach
    → (n : ℕ) × ((last_up_to reach marked events ≡ Some n) × (m ≤ n))
last_reaches pages end reach m behind [] marked order there within = cc
last_reaches pages end reach m behind (r ∷ events) marked order there within =
    elim (either (r.step == m && is_mark r.event) (has_mark m events) there) [
      | inl here ↦
          let at : r.step ≡ m = eqb-true r.step m (both (r.step == m) (is_mark r.event) here).0 in
          let mark = (both (r.step == m) (is_mark r.event) here).1 in
          let rest = last_rises pages end reach r.step (behind_it behind r) events order.1 (omega arith) in
          subst (LastFrom m) (sym (one_more reach r events marked true (le-leb r.step reach (omega (arith, at, within)))
          mark)) (rest.0, (rest.1.0, (let more = rest.1.1 in omega (arith, more, at))))
      | inr later ↦ by_test (nat_le r.step reach) refl
          (λ x. last_reaches pages end reach m (behind_it behind r) events x order.1 later within)
    ]
  where
    either : (a b : Bool) → (a || b) ≡ true → (a ≡ true) ⊎ (b ≡ true)
    either true b is = inl refl
    either false b is = inr is

    by_test : (t : Bool) → nat_le r.step reach ≡ t
        → ((x : Option ℕ) → (n : ℕ) × ((last_up_to reach x events ≡ Some n) × (m ≤ n)))
        → (n : ℕ) × ((last_up_to reach marked (r ∷ events) ≡ Some n) × (m ≤ n))
    by_test true is rest = rw is (rest (marked_by_record r marked))
    by_test false is rest = rw is (rest marked)

pub kept_begins : {Rec : Type 0} (steps : Bool → Step Rec) (o : Opened) (s : Scan) (m last : ℕ)
    → InOrder o.header.pages (at_start o.header.base o.header.start) s.events last → has_mark m s.events ≡ true
    → m ≤ o.header.base + carried steps (decoded o s) → Begins (text_to o s m) (kept steps o s)
kept_begins steps o s m last order there within =
    let above = mark_above o s last m order there in
    let found = last_reaches o.header.pages last (o.header.base + carried steps (decoded o s)) m
    (at_start o.header.base o.header.start) s.events None order there within in
    subst (λ (t : List ℕ). Begins (text_to o s m) t) (sym (ap (kept_by o s) found.1.0))
    (text_grows o s m found.0 last order (omega (arith, above)) found.1.1)

pub kept_to : {Rec : Type 0} (steps : Bool → Step Rec) (o : Opened) (s : Scan) (m last : ℕ)
    → InOrder o.header.pages (at_start o.header.base o.header.start) s.events last → has_mark m s.events ≡ true
    → m ≤ o.header.base + carried steps (decoded o s)
    → ((n : ℕ) → m < n → n ≤ o.header.base + carried steps (decoded o s) → has_mark n s.events ≡ false)
    → kept steps o s ≡ text_to o s m
kept_to steps o s m last order there within free =
    ap (kept_by o s) (last_here o.header.pages last (o.header.base + carried steps (decoded o s)) m
    (at_start o.header.base o.header.start) s.events None order there within free)

pub kept_none : {Rec : Type 0} (steps : Bool → Step Rec) (o : Opened) (s : Scan) (last : ℕ)
    → InOrder o.header.pages (at_start o.header.base o.header.start) s.events last
    → ((n : ℕ) → o.header.base ≤ n → n ≤ o.header.base + carried steps (decoded o s) → has_mark n s.events ≡ false)
    → kept steps o s ≡ []
kept_none steps o s last order free =
    ap (kept_by o s) (last_free (o.header.base + carried steps (decoded o s)) o.header.base s.events None
    (order_is_above o.header.pages (at_start o.header.base o.header.start) s.events last order) free)
