-- Records that are put again, one behind another.
use Rattle.std.proofs.Common.{◌≡◌, ℕ, suc, ◌+◌, ◌<◌, ◌≤◌, ◌==◌, ◌&&◌, ◌||◌, not, Bool, true, false, List, []}
use Rattle.std.proofs.Common.{◌∷◌, ◌++◌, length, take, drop, Option, Result, Ok, Err, IsTrue, inl, inr, arith, refl, ap}
use Rattle.std.proofs.Common.{sym, subst, ◌∙◌, append_assoc, length-append}
use Rattle.std.proofs.lemmas.Bool.{cases_eq, cases_lt, eq-eqb, ne_eqb}
use Rattle.std.proofs.lemmas.List.{append-nil, take-append-drop}
use Rattle.std.specs.Io.KnownBytes.{Appends}
use Rattle.cx_codec.specs.Blocks.{HasFront, StandsFor}
use Rattle.cx_codec.specs.Puts.{Finishes, onto}
use Rattle.cx_codec.specs.declared.fault.OutFault.{OutFault}
use Rattle.cx_codec.specs.declared.fault.OutFault.TheVariants.{WriteFault as write_fault}
use Rattle.cx_codec.proofs.Blocks.{front_longer}
use Rattle.cx_hart.specs.declared.record.StepRec.{StepRec}
use Rattle.cx_log.specs.Engine.{Writing}
use Rattle.cx_log.specs.Order.{InOrder, MarkRule, at_start, behind_it, next_mark}
use Rattle.cx_log.specs.Reading.{Opened}
use Rattle.cx_log.specs.Recording.{Event, Mark, Dma, Lines, Value, Recorded}
use Rattle.cx_log.specs.Scan.{Scan, decoded}
use Rattle.cx_log.specs.Text.{end_text, header_of, header_text, pages_text, recording_text}
use Rattle.cx_log.specs.declared.header.Header.{Header}
use Rattle.cx_log.specs.declared.order.Behind.{Behind}
use Rattle.cx_machine.specs.Due.{Due}
use Rattle.cx_machine.specs.Transfers.{Transfer}
use Rattle.cx_run.specs.Due.{due_at}
use Rattle.cx_run.specs.Events.{NoneBelow}
use Rattle.cx_run.specs.StepEvents.{has_mark, step_events, transfer_events}
use Rattle.cx_run.specs.Window.{events_between, is_mark}
use Rattle.cx_run.proofs.LaterEvents.{none_below_less, order_is_above}
use Rattle.cx_run.proofs.StandingLines.{order_rises}
use Rattle.cx_run.proofs.StepEvents.{has_mark-later, step_more}
use Rattle.cx_run.proofs.WindowOrder.{kept, order_ends, out_before, out_behind}
use Rattle.cx_run.specs.SoFar.{behind_all, events_text}
use Rattle.cx_run.proofs.TextSoFar.{behind_on, records_by_parts, text_on}
use Rattle.cx_commands.specs.Streaming.{FinishesOn, IsAll, IsOrdered, TellsOn, Told}
use Rattle.cx_record.specs.Putting.{PutAll, PutsEvents}
use Rattle.cx_commands.specs.Upgrade.{HasUpgraded, first_events, front_text, start_of_records}
use Rattle.cx_commands.specs.Upgrade.{upgrade_full}
use Rattle.cx_commands.specs.Upgrade.{upgrade_text, upgraded}
use Rattle.cx_commands.proofs.Streams.{blocks_front}

-- ---- one list of records behind another

pub put_none : (w : Writing) (held : Option (List ℕ)) → IsTrue w.output.live → PutAll [] w held w held
put_none w held live = record {
  stands = λ base put stood. subst (λ (t : List ℕ). StandsFor base t w.output.bytes held) (sym (append-nil put)) stood;
  behind = refl;
  header = refl;
  live = live;
}

-- a record that isn't put, since it may not stand there
pub none_put : (w : Writing) (held : Option (List ℕ)) (xs : List Recorded) (e : OutFault)
    → PutsEvents xs w held w held (Err e)
none_put w held xs e = record {
  all = tt;
  front = λ base put stood.
      front_longer base held put (events_text w.behind xs) (blocks_front base held put w.output.bytes stood);
}

-- the same records by another name
pub events_along : {old new : Writing} {held held' : Option (List ℕ)} {result : Result (Unit {0}) OutFault}
    (xs ys : List Recorded) → xs ≡ ys → PutsEvents xs old held new held' result
    → PutsEvents ys old held new held' result
events_along {old} {new} {held} {held'} {result} xs ys same puts =
    subst (λ (es : List Recorded). PutsEvents es old held new held' result) same puts

pub all_along : {old new : Writing} {held held' : Option (List ℕ)} (xs ys : List Recorded) → xs ≡ ys
    → PutAll xs old held new held' → PutAll ys old held new held'
all_along {old} {new} {held} {held'} xs ys same put = subst (λ (es : List Recorded). PutAll es old held new held') same
    put

transfers_on : (step : ℕ) (xs ys : List Transfer)
    → transfer_events step (xs ++ ys) ≡ transfer_events step xs ++ transfer_events step ys
transfers_on step [] ys = refl
transfers_on step (t ∷ xs) ys = ap (λ (es : List Recorded). record { step = step; event = Dma t } ∷ es)
    (transfers_on step xs ys)

pub transfers_cut : (step k : ℕ) (ts : List Transfer)
    → transfer_events step (take k ts) ++ transfer_events step (drop k ts) ≡ transfer_events step ts
transfers_cut step k ts = sym (transfers_on step (take k ts) (drop k ts)) ∙ ap (transfer_events step)
    (take-append-drop k ts)

-- ---- marks

skipped : (a b c : Bool) → b ≡ c → ((a && false) || b) ≡ c
skipped true b c same = same
skipped false b c same = same

-- a mark stands at the next step exactly where one has to
mark_next : (pages n : ℕ) (behind : Behind) (events : List Recorded) (end : ℕ) → InOrder pages behind events end
    → NoneBelow n events → n < end → has_mark n events ≡ (n == behind.mark)
mark_next pages n behind [] end order none below =
    sym (ne_eqb n behind.mark (λ same. omega (arith, same, below, order.marks)))
mark_next pages n behind (r ∷ events) end order none below =
    by_event r.event order.0.marks (mark_next pages n (behind_it behind r) events end order.1 none.1 below)
    (order_is_above pages (behind_it behind r) events end order.1)
  where
    by_event : (event : Event) → MarkRule behind.mark r.step event
        → has_mark n events ≡ (n == (behind_it behind (record { step = r.step; event = event })).mark)
        → NoneBelow r.step events
        → has_mark n (record { step = r.step; event = event } ∷ events) ≡ (n == behind.mark)
    by_event Mark rule rest later = elim (cases_eq n r.step) [
      | inl same ↦ rw (eq-eqb r.step n (sym same), eq-eqb n behind.mark (same ∙ rule)) refl
      | inr other ↦
          let above : suc n ≤ r.step = (let least = none.0 in omega (arith, least, other)) in
          rw (
            ne_eqb r.step n (λ same. other (sym same)),
            has_mark-later n events (none_below_less (suc n) r.step events above later),
            ne_eqb n behind.mark (λ same. other (same ∙ sym rule)),
          ) refl
    ]
    by_event (Dma t) rule rest later = skipped (r.step == n) _ _ rest
    by_event (Lines set) rule rest later = skipped (r.step == n) _ _ rest
    by_event (Value v) rule rest later = skipped (r.step == n) _ _ rest

mark_grows : (behind : Behind) (step : ℕ) (event : Event)
    → behind.mark ≤ (behind_it behind (record { step = step; event = event })).mark
mark_grows behind step Mark = omega arith
mark_grows behind step (Dma t) = omega arith
mark_grows behind step (Lines set) = omega arith
mark_grows behind step (Value v) = omega arith

marks_grow : (behind : Behind) (events : List Recorded) → behind.mark ≤ (behind_all behind events).mark
marks_grow behind [] = omega arith
marks_grow behind (r ∷ events) =
    let here = mark_grows behind r.step r.event in
    let rest = marks_grow (behind_it behind r) events in
    omega (arith, here, rest)

mark_later : (mark step a : ℕ) (event : Event) → MarkRule mark step event → a < mark → is_mark event ≡ true → a < step
mark_later mark step a Mark rule above is = omega (arith, rule, above)
mark_later mark step a (Dma t) rule above is = absurd (cc)
mark_later mark step a (Lines set) rule above is = absurd (cc)
mark_later mark step a (Value v) rule above is = absurd (cc)

none_between : (a n : ℕ) (events : List Recorded) → NoneBelow n events → events_between a n events ≡ []
none_between a n [] none = refl
none_between a n (r ∷ events) none = rw (out_behind a n r.step r.event none.0) (none_between a n events none.1)

mark_at : (pages a n : ℕ) (behind : Behind) (events : List Recorded) (end : ℕ) → InOrder pages behind events end
    → a ≤ behind.step → a < behind.mark → n < end
    → has_mark n events ≡ (n == (behind_all behind (events_between a n events)).mark)
mark_at pages a n behind [] end order from above below = mark_next pages n behind [] end order tt below
mark_at pages a n behind (r ∷ events) end order from above below =
    let rises = order_rises pages behind r order.0 in
    elim (cases_lt r.step n) [
      | inl less ↦
          let rest = mark_at pages a n (behind_it behind r) events end order.1 (omega (arith, from, rises))
          (let more = mark_grows behind r.step r.event in omega (arith, above, more)) below in
          rw (
            kept a n r.step r.event (omega (arith, from, rises)) less
                (mark_later behind.mark r.step a r.event order.0.marks above),
            ne_eqb r.step n (λ same. omega (arith, less, same)),
          ) rest
      | inr most ↦
          let later : NoneBelow n (r ∷ events) = (
            most,
            none_below_less n r.step events most (order_is_above pages (behind_it behind r) events end order.1),
          ) in
          rw (none_between a n (r ∷ events) later) (mark_next pages n behind (r ∷ events) end order later below)
    ]

first_mark : (base : ℕ) → base < next_mark base
first_mark base = omega arith

mark_here : (pages base n : ℕ) (behind : Behind) (events : List Recorded) (end : ℕ) → InOrder pages behind events end
    → base ≤ behind.step → base < behind.mark → n < end
    → (not (n == base) && has_mark n events) ≡ (n == (behind_all behind (events_between base n events)).mark)
mark_here pages base n behind events end order from above below =
    elim (cases_eq n base) [
      | inl same ↦
          let mark : ℕ = (behind_all behind (events_between base n events)).mark in
          let least = marks_grow behind (events_between base n events) in
          rw (eq-eqb n base same) (sym (ne_eqb n mark (λ e. omega (arith, e, same, least, above))))
      | inr other ↦ rw (ne_eqb n base other) (mark_at pages base n behind events end order from above below)
    ]

-- ---- before the first step

no_events : (a : ℕ) (events : List Recorded) → events_between a a events ≡ []
no_events a [] = refl
no_events a (r ∷ events) = elim (cases_lt r.step a) [
  | inl less ↦ rw (out_before a a r.step r.event less) (no_events a events)
  | inr most ↦ rw (out_behind a a r.step r.event most) (no_events a events)
]

start_text : (o : Opened) (s : Scan) → upgrade_text o s [] ≡ front_text o.header o.memory
start_text o s =
    let none : o.header.base + 0 ≡ o.header.base = omega arith in
    ap (λ (m : ℕ). front_text o.header o.memory
    ++ events_text (start_of_records o) (events_between o.header.base m s.events)) none
    ∙ ap (λ (es : List Recorded). front_text o.header o.memory ++ events_text (start_of_records o) es)
    (no_events o.header.base s.events) ∙ append-nil (front_text o.header o.memory)

pub upgrade_started : {w : Writing} {held held' : Option (List ℕ)} (o : Opened) (s : Scan) (header : Header)
    (memory : List ℕ) → o.header ≡ header → o.memory ≡ memory
    → StandsFor held (front_text header memory) w.output.bytes held' → w.header.pages ≡ header.pages
    → w.behind ≡ at_start header.base header.start
    → Told held (upgrade_text o s []) w.output.bytes held' (HasUpgraded o s [] w)
upgrade_started {w} {held} {held'} o s header memory header_is memory_is stands pages behind =
    let none : o.header.base + 0 ≡ o.header.base = omega arith in
    let no_more : first_events o s 0 ≡ [] = ap (λ (m : ℕ). events_between o.header.base m s.events) none
    ∙ no_events o.header.base s.events in
    record {
      stands = rw (start_text o s, header_is, memory_is) stands;
      keeps = record {
        pages = pages ∙ ap (λ (h : Header). h.pages) (sym header_is);
        behind = behind ∙ ap (λ (h : Header). at_start h.base h.start) (sym header_is)
            ∙ ap (behind_all (start_of_records o)) (sym no_more);
      };
    }

pub upgrade_refused : {held held' : Option (List ℕ)} (o : Opened) (s : Scan) (header : Header) (memory : List ℕ)
    → o.header ≡ header → o.memory ≡ memory → HasFront held (front_text header memory) held'
    → HasFront held (upgrade_text o s []) held'
upgrade_refused o s header memory header_is memory_is front = rw (start_text o s, header_is, memory_is) front

-- ---- a step

step_text : (o : Opened) (s : Scan) (given : List StepRec) (rec : StepRec) (w : Writing) (step : ℕ) (due : Due)
    → IsOrdered o s → step ≡ o.header.base + length given → step < s.upto → due ≡ due_at s.events step
    → HasUpgraded o s given w
    → first_events o s (length (given ++ rec ∷ []))
    ≡ first_events o s (length given) ++ step_events step (step == w.behind.mark) due
step_text o s given rec w step due ordered at within due_is has =
    let base : ℕ = o.header.base in
    let n : ℕ = base + length given in
    let count : base + length (given ++ rec ∷ []) ≡ suc n = omega (arith, length-append given (rec ∷ [])) in
    let first : List Recorded = first_events o s (length given) in
    let below : n < ordered.end = omega (arith, at, within, ordered.upto) in
    let mark : (not (n == base) && has_mark n s.events) ≡ (n == w.behind.mark) =
    mark_here o.header.pages base n (start_of_records o) s.events ordered.end ordered.order (omega arith)
    (first_mark base) below ∙ ap (λ (b : Behind). n == b.mark) (sym has.behind) in
    ap (λ (m : ℕ). events_between base m s.events) count
    ∙ step_more o.header.pages base n (start_of_records o) s.events ordered.end ordered.order (omega arith)
    ∙ ap (λ (m : Bool). first ++ step_events n m (due_at s.events n)) mark
    ∙ ap (λ (k : ℕ). first ++ step_events k (k == w.behind.mark) (due_at s.events k)) (sym at)
    ∙ ap (λ (d : Due). first ++ step_events step (step == w.behind.mark) d) (sym due_is)

pub step_told : {old new : Writing} {held held' : Option (List ℕ)} {result : Result (Unit {0}) OutFault} (o : Opened)
    (s : Scan) (given : List StepRec) (rec : StepRec) (base : Option (List ℕ)) (step : ℕ) (due : Due)
    → IsOrdered o s → step ≡ o.header.base + length given → step < s.upto → due ≡ due_at s.events step
    → StandsFor base (upgrade_text o s given) old.output.bytes held → HasUpgraded o s given old
    → PutsEvents (step_events step (step == old.behind.mark) due) old held new held' result
    → TellsOn base (upgrade_text o s (given ++ rec ∷ [])) new.output.bytes held'
    (HasUpgraded o s (given ++ rec ∷ []) new) result
step_told {old} {new} {held} {held'} {result} o s given rec base step due ordered at within due_is stood has puts =
    by_result result puts
  where
    here : List Recorded
    here = step_events step (step == old.behind.mark) due

    first : List Recorded
    first = first_events o s (length given)

    all : first_events o s (length (given ++ rec ∷ [])) ≡ first ++ here
    all = step_text o s given rec old step due ordered at within due_is has

    text : upgrade_text o s given ++ events_text old.behind here ≡ upgrade_text o s (given ++ rec ∷ [])
    text = append_assoc (front_text o.header o.memory) (events_text (start_of_records o) first)
        (events_text old.behind here)
        ∙ ap (λ (t : List ℕ). front_text o.header o.memory ++ t)
        (ap (λ (b : Behind). events_text (start_of_records o) first ++ events_text b here) has.behind
        ∙ sym (text_on (start_of_records o) first here)
        ∙ ap (events_text (start_of_records o)) (sym all))

    by_result : (r : Result (Unit {0}) OutFault) → PutsEvents here old held new held' r
        → TellsOn base (upgrade_text o s (given ++ rec ∷ [])) new.output.bytes held'
        (HasUpgraded o s (given ++ rec ∷ []) new) r
    by_result (Ok u) puts = record {
      stands = subst (λ (t : List ℕ). StandsFor base t new.output.bytes held') text
          (puts.all.stands base (upgrade_text o s given) stood);
      keeps = record {
        pages = ap (λ (h : Header). h.pages) puts.all.header ∙ has.pages;
        behind = puts.all.behind ∙ ap (λ (b : Behind). behind_all b here) has.behind
            ∙ sym (behind_on (start_of_records o) first here) ∙ ap (behind_all (start_of_records o)) (sym all);
      };
    }
    by_result (Err e) puts = subst (λ (t : List ℕ). HasFront base t held') text
        (puts.front base (upgrade_text o s given) stood)

-- ---- the end

all_between : (pages a : ℕ) (behind : Behind) (events : List Recorded) (end : ℕ) → InOrder pages behind events end
    → a ≤ behind.step → a < behind.mark → events_between a end events ≡ events
all_between pages a behind [] end order from above = refl
all_between pages a behind (r ∷ events) end order from above =
    let rises = order_rises pages behind r order.0 in
    let ends = order_ends pages (behind_it behind r) events end order.1 in
    rw (kept a end r.step r.event (omega (arith, from, rises)) ends.1
    (mark_later behind.mark r.step a r.event order.0.marks above))
    (ap (λ (es : List Recorded). r ∷ es) (all_between pages a (behind_it behind r) events end order.1
    (omega (arith, from, rises)) (let more = mark_grows behind r.step r.event in omega (arith, above, more))))

full_text : (o : Opened) (s : Scan) (given : List StepRec) (w : Writing) (end : ℕ) → IsAll o s given end
    → HasUpgraded o s given w → upgrade_text o s given ++ end_text w.behind.step end ≡ upgrade_full o s
unfolding recording_text
full_text o s given w end all has =
    let base : ℕ = o.header.base in
    let start : Behind = start_of_records o in
    let header : List ℕ = header_text (header_of (upgraded (decoded o s))) in
    let pages : List ℕ = pages_text o.memory o.header.pages in
    let upto : base + length given ≡ s.upto = omega (arith, all.count, all.ends) in
    let events : first_events o s (length given) ≡ s.events =
    ap (λ (m : ℕ). events_between base m s.events) upto
    ∙ all_between o.header.pages base start s.events s.upto all.order (omega arith) (first_mark base) in
    let last : w.behind ≡ behind_all start s.events = has.behind ∙ ap (behind_all start) events in
    ap (λ (es : List Recorded). ((header ++ pages) ++ events_text start es) ++ end_text w.behind.step end) events
    ∙ ap (λ (b : Behind). ((header ++ pages) ++ events_text start s.events) ++ end_text b.step end) last
    ∙ ap (λ (n : ℕ). ((header ++ pages) ++ events_text start s.events) ++ end_text (behind_all start s.events).step n)
    all.ends
    ∙ append_assoc (header ++ pages) (events_text start s.events) (end_text (behind_all start s.events).step s.upto)
    ∙ append_assoc header pages _
    ∙ ap (λ (t : List ℕ). header ++ (pages ++ t)) (sym (records_by_parts start s.events s.upto))

pub end_unwritten : {w : Writing} {held : Option (List ℕ)} (o : Opened) (s : Scan) (given : List StepRec)
    (base : Option (List ℕ)) (end : ℕ) → IsAll o s given end
    → StandsFor base (upgrade_text o s given) w.output.bytes held → HasUpgraded o s given w
    → HasFront base (upgrade_full o s) held
end_unwritten {w} {held} o s given base end all stood has =
    subst (λ (t : List ℕ). HasFront base t held) (full_text o s given w end all has)
    (front_longer base held (upgrade_text o s given) (end_text w.behind.step end)
    (blocks_front base held (upgrade_text o s given) w.output.bytes stood))

pub end_written : {w : Writing} {held held' : Option (List ℕ)} {faults faults' : ℕ}
    {result : Result (Unit {0}) OutFault} (o : Opened) (s : Scan) (given : List StepRec) (base : Option (List ℕ))
    (end : ℕ) → IsAll o s given end → StandsFor base (upgrade_text o s given) w.output.bytes held
    → HasUpgraded o s given w
    → Finishes write_fault (end_text w.behind.step end) (onto w.output held faults) held' faults' result
    → FinishesOn base (upgrade_full o s) held' result
end_written {w} {held} {held'} {faults} {faults'} {result} o s given base end all stood has finishes =
    by_result result finishes
  where
    text : upgrade_text o s given ++ end_text w.behind.step end ≡ upgrade_full o s
    text = full_text o s given w end all has

    by_result : (r : Result (Unit {0}) OutFault)
        → Finishes write_fault (end_text w.behind.step end) (onto w.output held faults) held' faults' r
        → FinishesOn base (upgrade_full o s) held' r
    by_result (Ok u) finishes = subst (λ (t : List ℕ). Appends base held' t) text
        (finishes.written base (upgrade_text o s given) stood)
    by_result (Err e) finishes = subst (λ (t : List ℕ). HasFront base t held') text
        (finishes.refused base (upgrade_text o s given) stood)
