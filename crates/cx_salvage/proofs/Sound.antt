-- The records up to a mark are those of a recording that ends there.
use Rattle.std.proofs.Common.{◌≡◌, ◌⊎◌, ℕ, zero, suc, ◌+◌, ◌-◌, ◌<◌, ◌≤◌, ◌==◌, ◌&&◌, ◌||◌, nat_lt, filter}
use Rattle.std.proofs.Common.{Bool, true, false}
use Rattle.std.proofs.Common.{List, [], ◌∷◌, length, Result, Ok, Err, inl, inr, refl, ap, sym, arith, length-append}
use Rattle.std.proofs.lemmas.Bool.{cases_lt, eq-eqb, eqb-true, le-ltb, lt-ltb}
use Rattle.cx_codec.specs.Place.{Place}
use Rattle.cx_codec.proofs.Texts.{bytes_behind}
use Rattle.cx_codec.specs.Varint.{varint}
use Rattle.cx_log.specs.Order.{InOrder, MarkRule, MayFollow, behind_it}
use Rattle.cx_log.specs.Recording.{Event, Mark, Dma, Lines, Value, Recorded}
use Rattle.cx_log.specs.Records.{Entry, Put, Ends, record_at}
use Rattle.cx_log.specs.Scan.{Scan, scan_on, scan_within}
use Rattle.cx_log.specs.Text.{end_text, payload, record_text, records_text}
use Rattle.cx_log.specs.declared.order.Behind.{Behind}
use Rattle.cx_log.proofs.RecordOnce.{record_once}
use Rattle.cx_map.specs.Bytes.{AreBytes}
use Rattle.cx_run.specs.Events.{NoneBelow}
use Rattle.cx_run.specs.StepEvents.{has_mark}
use Rattle.cx_run.specs.Window.{events_between, is_mark}
use Rattle.cx_run.proofs.LaterEvents.{none_below_less}
use Rattle.cx_run.proofs.StandingLines.{order_rises}
use Rattle.cx_run.proofs.WindowOrder.{kept, out_behind}
use Rattle.cx_salvage.proofs.Marks.{both, later_is}

-- the records of the steps below one
abbrev pub below : ℕ → List Recorded → List Recorded
below m events = filter (λ (r : Recorded). nat_lt r.step m) events

none_kept : (m : ℕ) (events : List Recorded) → NoneBelow m events → below m events ≡ []
none_kept m [] none = refl
none_kept m (r ∷ events) none = rw (le-ltb r.step m none.0) (none_kept m events none.1)

-- What is read from a place on has its marks where they have to stand, and the records up to each of them are in order,
-- up to an end there. With End they take no more bytes than there are.
pub record Marked (pages : ℕ) (behind : Behind) (p : Place) (s : Scan) : Type 0 where
  pub rises : NoneBelow behind.step s.events
  pub marks : (m : ℕ) → has_mark m s.events ≡ true → behind.mark ≤ m
  pub order : (m : ℕ) → has_mark m s.events ≡ true → InOrder pages behind (below m s.events) m
  pub size : (m : ℕ) → has_mark m s.events ≡ true
      → length (records_text behind.step (below m s.events) m) ≤ p.limit - p.at

no_marks : (pages : ℕ) (behind : Behind) (p : Place) (s : Scan) → s.events ≡ [] → Marked pages behind p s
no_marks pages behind p s none = record {
  rises = rw none tt;
  marks = λ m there. absurd (let wrong : false ≡ true = rw none at there in cc);
  order = λ m there. absurd (let wrong : false ≡ true = rw none at there in cc);
  size = λ m there. absurd (let wrong : false ≡ true = rw none at there in cc);
}

mark_ahead : (behind : Behind) (step : ℕ) (event : Event) → MarkRule behind.mark step event
    → step < (behind_it behind (record { step = step; event = event })).mark
mark_ahead behind step Mark rule = omega (arith, rule)
mark_ahead behind step (Dma t) rule = rule
mark_ahead behind step (Lines set) rule = rule
mark_ahead behind step (Value v) rule = rule

mark_grows : (behind : Behind) (step : ℕ) (event : Event)
    → behind.mark ≤ (behind_it behind (record { step = step; event = event })).mark
mark_grows behind step Mark = omega arith
mark_grows behind step (Dma t) = omega arith
mark_grows behind step (Lines set) = omega arith
mark_grows behind step (Value v) = omega arith

mark_at : (mark step : ℕ) (event : Event) → MarkRule mark step event → is_mark event ≡ true → step ≡ mark
mark_at mark step Mark rule is = rule
mark_at mark step (Dma t) rule is = absurd cc
mark_at mark step (Lines set) rule is = absurd cc
mark_at mark step (Value v) rule is = absurd cc

-- End in the place of a record is no longer
end_short : (before : ℕ) (r : Recorded) → length (end_text before r.step) ≤ length (record_text before r)
unfolding end_text record_text
end_short before r = omega (arith, length-append (varint (r.step - before)) (payload r.event))

either : (a b : Bool) → (a || b) ≡ true → (a ≡ true) ⊎ (b ≡ true)
either true b is = inl refl
either false b is = inr is

-- a mark among a record and those behind it
mark_of : (m : ℕ) (r : Recorded) (events : List Recorded) → has_mark m (r ∷ events) ≡ true
    → ((r.step ≡ m) × (is_mark r.event ≡ true)) ⊎ (has_mark m events ≡ true)
mark_of m r events there = elim (either (r.step == m && is_mark r.event) (has_mark m events) there) [
  | inl here ↦ (let is = both (r.step == m) (is_mark r.event) here in inl (eqb-true r.step m is.0, is.1))
  | inr later ↦ inr later
]

marked_put : (pages : ℕ) (behind : Behind) (p q : Place) (r : Recorded) (s : Scan) → behind.step < behind.mark
    → MayFollow pages behind r → length (record_text behind.step r) ≤ p.limit - p.at
    → q.at ≡ p.at + length (record_text behind.step r) → q.limit ≡ p.limit → Marked pages (behind_it behind r) q s
    → Marked pages behind p (record { events = r ∷ s.events; upto = s.upto; stop = s.stop })
marked_put pages behind p q r s ahead may within there limit rest =
    let above = order_rises pages behind r may in
    record {
      rises = (above, none_below_less behind.step r.step s.events above rest.rises);
      marks = λ m marked. elim (mark_of m r s.events marked) [
        | inl here ↦ (let at = mark_at behind.mark r.step r.event may.marks here.1 in
            let same = here.0 in
            omega (arith, at, same))
        | inr later ↦ (let more = rest.marks m later in
            let grows = mark_grows behind r.step r.event in
            omega (arith, more, grows))
      ];
      order = λ m marked. elim (mark_of m r s.events marked) [
        | inl here ↦ rw (none_here m here.0) (record {
          small = (let small = may.small in let same = here.0 in omega (arith, small, same));
          above = (let at = mark_at behind.mark r.step r.event may.marks here.1 in
              let same = here.0 in
              omega (arith, at, same, ahead));
          marks = (let at = mark_at behind.mark r.step r.event may.marks here.1 in
              let same = here.0 in
              omega (arith, at, same));
        })
        | inr later ↦ rw (lt-ltb r.step m (less m later)) (may, rest.order m later)
      ];
      size = λ m marked. elim (mark_of m r s.events marked) [
        | inl here ↦ rw (none_here m here.0) (let short = end_short behind.step r in
            let same : length (end_text behind.step m) ≡ length (end_text behind.step r.step) =
            ap (λ (k : ℕ). length (end_text behind.step k)) (sym here.0) in
            omega (arith, short, same, within))
        | inr later ↦ rw (lt-ltb r.step m (less m later)) (let few = rest.size m later in
            let parts = length-append (record_text behind.step r) (records_text r.step (below m s.events) m) in
            omega (arith, few, parts, there, limit, within))
      ];
    }
  where
    less : (m : ℕ) → has_mark m s.events ≡ true → r.step < m
    less m later = let more = rest.marks m later in
        let next = mark_ahead behind r.step r.event may.marks in
        omega (arith, more, next)

    none_here : (m : ℕ) → r.step ≡ m → below m (r ∷ s.events) ≡ []
    none_here m same = none_kept m (r ∷ s.events) (
      omega (arith, same),
      none_below_less m r.step s.events (omega (arith, same)) rest.rises,
    )

marked_on : (pages : ℕ) (rest : Behind → Place → Scan)
    → ((b : Behind) (q : Place) → AreBytes q.ahead → b.step < b.mark → Marked pages b q (rest b q))
    → (behind : Behind) (p : Place) (r : Result (Entry × Place) ℕ) → AreBytes p.ahead → behind.step < behind.mark
    → record_at pages behind p ≡ r → Marked pages behind p (scan_on rest behind r)
marked_on pages rest later behind p (Err o) are ahead read = no_marks pages behind p _ refl
marked_on pages rest later behind p (Ok x) are ahead read = by_entry x.0 x.1 read
  where
    by_entry : (e : Entry) (q : Place) → record_at pages behind p ≡ Ok (e, q)
        → Marked pages behind p (scan_on rest behind (Ok (e, q)))
    by_entry (Ends end) q found = no_marks pages behind p _ refl
    by_entry (Put r) q found =
        let stood = record_once pages behind p q (Put r) are found in
        marked_put pages behind p q r (rest (behind_it behind r) q) ahead stood.may stood.takes.within
        stood.takes.there stood.takes.limit
        (later (behind_it behind r) q (bytes_behind p q _ are stood.takes)
        (mark_ahead behind r.step r.event stood.may.marks))

pub scan_marked : (most pages : ℕ) (behind : Behind) (p : Place) → AreBytes p.ahead → behind.step < behind.mark
    → Marked pages behind p (scan_within most pages behind p)
scan_marked zero pages behind p are ahead = no_marks pages behind p _ refl
scan_marked (suc most) pages behind p are ahead =
    marked_on pages (scan_within most pages) (scan_marked most pages) behind p (record_at pages behind p) are ahead refl

-- ---- up to a mark

pub between_is : (base m : ℕ) (events : List Recorded) → NoneBelow base events
    → ((k : ℕ) → has_mark k events ≡ true → base < k) → events_between base m events ≡ below m events
between_is base m [] above marks = refl
between_is base m (r ∷ events) above marks =
    let rest = between_is base m events above.1 (λ k there. marks k (later_is (r.step == k && is_mark r.event)
    (has_mark k events) there)) in
    elim (cases_lt r.step m) [
      | inl less ↦ rw (
        kept base m r.step r.event above.0 less
            (λ is. marks r.step (rw (eq-eqb r.step r.step refl, is) refl)),
        lt-ltb r.step m less,
      )
          (ap (λ (es : List Recorded). r ∷ es) rest)
      | inr most ↦ rw (out_behind base m r.step r.event most, le-ltb r.step m most) rest
    ]
