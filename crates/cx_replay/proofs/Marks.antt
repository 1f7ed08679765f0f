-- The last mark, as a replay keeps it.
use Rattle.std.proofs.Common.{◌≡◌, ◌≢◌, ℕ, ◌≤◌, ◌==◌, ◌&&◌, nat_le, List, [], ◌∷◌, ◌++◌}
use Rattle.std.proofs.Common.{filter, Bool, true, false, if◌then◌else◌, Option, None, Some, inl, inr, refl, ap, sym}
use Rattle.std.proofs.Common.{◌∙◌, arith, append_assoc}
use Rattle.std.proofs.lemmas.Bool.{cases_lt, eq-eqb, le-leb, le-ltb, lt-leb, lt-ltb, ne_eqb}
use Rattle.cx_hart.specs.Whole.{Whole}
use Rattle.cx_hart.specs.declared.record.StepRec.{StepRec}
use Rattle.cx_log.specs.declared.item.Item.{Item}
use Rattle.cx_log.specs.declared.item.What.{What}
use Rattle.cx_log.specs.declared.item.What.TheVariants as what
use Rattle.cx_log.specs.Item.{entry_of, entry_with}
use Rattle.cx_log.specs.Reading.{Opened}
use Rattle.cx_log.specs.Recording.{Recorded}
use Rattle.cx_log.specs.Records.{Ends, Entry, Put}
use Rattle.cx_log.specs.Scan.{Scan}
use Rattle.cx_run.specs.Events.{AllBelow}
use Rattle.cx_run.specs.Window.{is_mark}
use Rattle.cx_replay.specs.Handing.{last_mark, last_mark_behind, marked_by_record}
use Rattle.cx_replay.specs.Replaying.{Progress, Stands, is_mark_item, mark_before, mark_of, mark_of_item, records_of}
use Rattle.cx_replay.specs.Replaying.{settling, waiting_of}
use Rattle.cx_replay.proofs.Turning.{record_is}

-- records of steps below n in front of others
settling-past : (n : ℕ) (past more : List Recorded) → AllBelow n past → settling n (past ++ more) ≡ past ++ settling n
    more
settling-past n [] more below = refl
settling-past n (r ∷ past) more below =
    rw (lt-ltb r.step n below.0) (ap (λ (xs : List Recorded). r ∷ xs) (settling-past n past more below.1))

filter-past : (n : ℕ) (past more : List Recorded) → AllBelow n past
    → filter (λ (r : Recorded). nat_le r.step n) (past ++ more) ≡ past ++ filter (λ (r : Recorded). nat_le r.step n)
    more
filter-past n [] more below = refl
filter-past n (r ∷ past) more below =
    rw (le-leb r.step n (let less = below.0 in omega arith)) (ap (λ (xs : List Recorded). r ∷ xs)
    (filter-past n past more below.1))

mark_behind-append : (marked : Option ℕ) (past more : List Recorded)
    → last_mark_behind marked (past ++ more) ≡ last_mark_behind (last_mark_behind marked past) more
mark_behind-append marked [] more = refl
mark_behind-append marked (r ∷ past) more = mark_behind-append (marked_by_record r marked) past more

mark_past : (n : ℕ) (past more : List Recorded) → AllBelow n past
    → mark_before n (past ++ more) ≡ last_mark_behind (last_mark past) (filter (λ (r : Recorded). nat_le r.step n)
    (settling n more))
mark_past n past more below = rw (settling-past n past more below, filter-past n past (settling n more) below)
    (mark_behind-append None past (filter (λ (r : Recorded). nat_le r.step n) (settling n more)))

-- ---- the record that waits

is_mark_entry : Entry → Bool
is_mark_entry (Put r) = is_mark r.event
is_mark_entry (Ends end) = false

mark_where : (bytes : List ℕ) (step : ℕ) (w : What) → is_mark_item w ≡ is_mark_entry (entry_with bytes step w)
unfolding is_mark_entry
mark_where bytes step (what.Dma place) = refl
mark_where bytes step (what.Lines lines) = refl
mark_where bytes step (what.Value v) = refl
mark_where bytes step what.Mark = refl
mark_where bytes step what.End = refl

choice_here : (b : Bool) (step : ℕ) (marked : Option ℕ) → (if b && true then Some step else marked)
    ≡ (if b then Some step else marked)
choice_here true step marked = refl
choice_here false step marked = refl

choice_later : (b : Bool) (step : ℕ) (marked : Option ℕ) → (if b && false then Some step else marked) ≡ marked
choice_later true step marked = refl
choice_later false step marked = refl

-- its step is the next one, or a later one
mark_waits : (at : ℕ) (marked : Option ℕ) (r : Recorded) (rest : List Recorded) (b : Bool) → b ≡ is_mark r.event
    → at ≤ r.step
    → (if b && r.step == at then Some r.step else marked) ≡ last_mark_behind marked
    (filter (λ (x : Recorded). nat_le x.step at) (settling at (r ∷ rest)))
mark_waits at marked r rest b is least =
    elim (cases_lt at r.step) [
      | inl less ↦ rw (le-ltb r.step at least, ne_eqb r.step at (λ same. omega arith), lt-leb r.step at less)
          (choice_later b r.step marked)
      | inr most ↦
          let here : r.step ≡ at = omega arith in
          rw (le-ltb r.step at least, eq-eqb r.step at here, le-leb r.step at most, ← is) (choice_here b r.step marked)
    ]

mark_none : (at : ℕ) (marked : Option ℕ) (item : Item) → is_mark_item item.what ≡ false
    → mark_of_item at marked item ≡ marked
mark_none at marked item none = rw none refl

pub mark_is : {o : Opened} {whole : Scan} {given : List StepRec} {m : Whole} {p : Progress} {bytes : List ℕ} {Has : Scan
    → Type 0}
    → Stands o whole given m p bytes Has → given ≢ [] → mark_of p ≡ mark_before p.at whole.events
unfolding is_mark_entry
mark_is {o} {whole} {given} {m} {p} {bytes} s some =
    let past : List Recorded = s.read.past in
    let w : List Recorded = waiting_of bytes p.waiting in
    let events : whole.events ≡ past ++ (w ++ s.read.rest.events) = ap (λ (x : Scan). x.events) s.read.parts
    ∙ append_assoc past w s.read.rest.events in
    let split : mark_before p.at whole.events ≡ last_mark_behind p.marked (filter (λ (r : Recorded). nat_le r.step p.at)
    (settling p.at (w ++ s.read.rest.events)))
    = ap (mark_before p.at) events ∙ mark_past p.at past (w ++ s.read.rest.events) s.read.below
    ∙ ap (λ (k : Option ℕ). last_mark_behind k (filter (λ (r : Recorded). nat_le r.step p.at)
    (settling p.at (w ++ s.read.rest.events)))) (sym s.read.marked) in
    by_waiting p.waiting refl ∙ sym split
  where
    none_ahead : waiting_of bytes p.waiting ≡ [] → s.read.rest.events ≡ []
    none_ahead none = by_end p.ended refl
      where
        by_end : (b : Bool) → p.ended ≡ b → s.read.rest.events ≡ []
        by_end true is = (rw is at s.read.ahead).0
        by_end false is = absurd (some (s.one is none))

    by_entry : (item : Item) (e : Entry) → p.waiting ≡ Some item → entry_of bytes item ≡ e
        → mark_of_item p.at p.marked item ≡ last_mark_behind p.marked (filter (λ (r : Recorded). nat_le r.step p.at)
        (settling p.at (records_of e ++ s.read.rest.events)))
    by_entry item (Put r) waits is =
        let at = record_is bytes item r is in
        let mark : is_mark_item item.what ≡ is_mark r.event = mark_where bytes item.step item.what
        ∙ ap is_mark_entry is in
        let there : r.step ≡ p.upto = (rw (waits, is) at s.read.waits).0 in
        rw (← at.step) (mark_waits p.at p.marked r s.read.rest.events (is_mark_item item.what) mark (let w = s.within in
        omega arith))
    by_entry item (Ends end) waits is =
        let none : is_mark_item item.what ≡ false = mark_where bytes item.step item.what ∙ ap is_mark_entry is in
        rw (none_ahead (rw (waits, is) refl)) (mark_none p.at p.marked item none)

    by_waiting : (x : Option Item) → p.waiting ≡ x
        → mark_of p ≡ last_mark_behind p.marked (filter (λ (r : Recorded). nat_le r.step p.at)
        (settling p.at (waiting_of bytes p.waiting ++ s.read.rest.events)))
    by_waiting None is = rw (is, none_ahead (rw is refl)) refl
    by_waiting (Some item) is = rw is (by_entry item (entry_of bytes item) is refl)

pub mark_at_first : {o : Opened} {whole : Scan} {m : Whole} {p : Progress} {bytes : List ℕ} {Has : Scan → Type 0}
    → Stands o whole [] m p bytes Has → mark_of p ≡ None
mark_at_first s = rw (s.fresh refl) refl
