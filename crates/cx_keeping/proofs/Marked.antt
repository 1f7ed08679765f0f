-- A mark at the step that comes next.
use Rattle.std.proofs.Common.{◌≡◌, ◌≢◌, ℕ, suc, ◌<◌, ◌≤◌, ◌==◌, ◌&&◌, ◌||◌, nat_le, not, Bool, false, List, []}
use Rattle.std.proofs.Common.{◌∷◌, filter, Option, None, Some, if◌then◌else◌, inl, inr, refl, ap, sym}
use Rattle.std.proofs.Common.{◌∙◌, arith}
use Rattle.std.proofs.lemmas.Bool.{cases_lt, eq-eqb, le-leb, le-ltb, lt-leb, lt-ltb, ne_eqb}
use Rattle.cx_hart.specs.Whole.{Whole}
use Rattle.cx_hart.specs.declared.record.StepRec.{StepRec}
use Rattle.cx_log.specs.Order.{InOrder, at_start, behind_it, rank_behind}
use Rattle.cx_log.specs.Reading.{Opened}
use Rattle.cx_log.specs.Recording.{Event, Mark, Dma, Lines, Value, Recorded}
use Rattle.cx_log.specs.Scan.{Scan}
use Rattle.cx_log.specs.declared.order.Behind.{Behind}
use Rattle.cx_replay.specs.Handing.{last_mark_behind, marked_by_record}
use Rattle.cx_replay.specs.declared.progress.Progress.{Progress}
use Rattle.cx_replay.specs.Replaying.{Stands, mark_before, settling}
use Rattle.cx_replay.proofs.PassedMark.{is_step}
use Rattle.cx_run.specs.Events.{NoneBelow}
use Rattle.cx_run.specs.StepEvents.{has_mark}
use Rattle.cx_run.specs.Window.{is_mark}
use Rattle.cx_run.proofs.LaterEvents.{none_below_less, order_is_above}
use Rattle.cx_run.proofs.StepEvents.{has_mark-later, order_is_quiet}

-- a record below the step
below_step : (n : ℕ) (r : Recorded) (marked : Option ℕ) → r.step < n → is_step n marked ≡ false
    → is_step n (marked_by_record r marked) ≡ false
below_step n r marked less none = by_event r.event
  where
    by_event : (event : Event) → is_step n (if is_mark event then Some r.step else marked) ≡ false
    by_event Mark = ne_eqb r.step n (λ same. omega (arith, same, less))
    by_event (Dma t) = none
    by_event (Lines set) = none
    by_event (Value v) = none

-- the record of the step itself
at_event : (n : ℕ) (marked : Option ℕ) (event : Event) (h : Bool) → is_step n marked ≡ false
    → (1 ≤ rank_behind event → h ≡ false)
    → is_step n (if is_mark event then Some n else marked) ≡ (is_mark event || h)
at_event n marked Mark h none quiet = eq-eqb n n refl
at_event n marked (Dma t) h none quiet = none ∙ sym (quiet (omega arith))
at_event n marked (Lines set) h none quiet = none ∙ sym (quiet (omega arith))
at_event n marked (Value v) h none quiet = none ∙ sym (quiet (omega arith))

pub mark_before_is : (pages n end : ℕ) (behind : Behind) (events : List Recorded) (marked : Option ℕ)
    → InOrder pages behind events end → is_step n marked ≡ false
    → is_step n (last_mark_behind marked (filter (λ (r : Recorded). nat_le r.step n) (settling n events)))
    ≡ has_mark n events
mark_before_is pages n end behind [] marked order none = none
mark_before_is pages n end behind (r ∷ events) marked order none = elim (cases_lt r.step n) [
  | inl less ↦
      let rest = mark_before_is pages n end (behind_it behind r) events (marked_by_record r marked) order.1
      (below_step n r marked less none) in
      rw (
        lt-ltb r.step n less,
        le-leb r.step n (omega (arith, less)),
        ne_eqb r.step n (λ same. omega (arith, same, less)),
      )
      rest
  | inr most ↦ elim (cases_lt n r.step) [
    | inl above ↦
        let later : NoneBelow (suc n) events = none_below_less (suc n) r.step events above
        (order_is_above pages (behind_it behind r) events end order.1) in
        rw (
          le-ltb r.step n most,
          lt-leb r.step n above,
          ne_eqb r.step n (λ same. omega (arith, same, above)),
          has_mark-later n events later,
        ) none
    | inr least ↦
        let here : r.step ≡ n = omega (arith, most, least) in
        let quiet = order_is_quiet pages n (behind_it behind r) events end order.1 here in
        rw (le-ltb r.step n most, le-leb r.step n least, eq-eqb r.step n here, here)
        (at_event n marked r.event (has_mark n events) none quiet.mark)
  ]
]

pub mark_next_is : (o : Opened) (whole : Scan) (given : List StepRec) (m : Whole) (p : Progress) (bytes : List ℕ)
    (Has : Scan → Type 0) (last : ℕ) (mark : Option ℕ) → Stands o whole given m p bytes Has
    → InOrder o.header.pages (at_start o.header.base o.header.start) whole.events last
    → (given ≡ [] → mark ≡ None) → (given ≢ [] → mark ≡ mark_before p.at whole.events)
    → is_step p.at mark ≡ (not (p.at == o.header.base) && has_mark p.at whole.events)
mark_next_is o whole [] m p bytes Has last mark stands order first later =
    let at : p.at ≡ o.header.base = stands.count ∙ omega arith in
    rw (first refl, eq-eqb p.at o.header.base at) refl
mark_next_is o whole (rec ∷ given) m p bytes Has last mark stands order first later =
    let count = stands.count in
    let other = ne_eqb p.at o.header.base (λ same. omega (arith, same, count)) in
    ap (is_step p.at) (later (λ same. cc))
    ∙ mark_before_is o.header.pages p.at last (at_start o.header.base o.header.start) whole.events None order refl
    ∙ sym (rw other refl)
