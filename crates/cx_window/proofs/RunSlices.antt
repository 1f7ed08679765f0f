-- What a slicer keeps, step by step.
use Rattle.std.proofs.Common.{◌≡◌, ℕ, ◌+◌, ◌-◌, ◌<◌, ◌≤◌, ◌||◌, Bool, false, List, [], ◌∷◌, ◌++◌, length, take, drop}
use Rattle.std.proofs.Common.{get_or, is_some, Option, Some, IsSome, inl, inr, arith, refl, ap, sym, subst, ◌∙◌}
use Rattle.std.proofs.Common.{length-append}
use Rattle.std.proofs.Math.Seq.{drop-nil, take-nil}
use Rattle.std.proofs.lemmas.Bool.{cases_eq, cases_lt, eq-eqb, le-leb, le-ltb, lt-leb, lt-ltb, ne_eqb}
use Rattle.std.proofs.lemmas.List.{append-nil, drop-append-le, drop_all, get_or-replicate, length-drop}
use Rattle.std.proofs.lemmas.List.{length-replicate}
use Rattle.std.proofs.lemmas.List.{take-append-le, take_all, take_at}
use Rattle.cx_hart.specs.HartStep.{hart_step}
use Rattle.cx_hart.specs.Reads.{read_indices}
use Rattle.cx_hart.specs.declared.record.StepRec.{StepRec}
use Rattle.std.proofs.Common.{min, suc, not, ◌&&◌, ◌==◌}
use Rattle.std.proofs.lemmas.Bool.Decides.{nat_tests}
use Rattle.cx_log.specs.Recording.{Event, Mark, Dma, Lines, Value, Recorded, Recording}
use Rattle.cx_machine.specs.Due.{Due}
use Rattle.cx_run.specs.Due.{due_at}
use Rattle.cx_run.specs.StepEvents.{has_mark, step_events}
use Rattle.cx_run.specs.Window.{events_between}
use Rattle.cx_run.proofs.Events.{is_between}
use Rattle.cx_run.proofs.StepEvents.{step_more}
use Rattle.cx_machine.specs.Machine.{MachineState}
use Rattle.cx_ram.specs.PhysicalMemory.{SavedMemory}
use Rattle.cx_run.specs.Run.{Run, run_of}
use Rattle.cx_run.specs.Window.{any_in_page, is_read}
use Rattle.cx_run.proofs.PagesRead.{is_read-more}
use Rattle.cx_window.specs.Marks.{AddsMarks}
use Rattle.cx_window.specs.Slicing.{HasOrder, IsSeen, Slices, Slicing, nothing_kept, window_events, window_reads}
use Rattle.cx_window.proofs.Marking.{or_false}

-- a window without steps has no events
empty_between : (a b : ℕ) (events : List Recorded) → b ≤ a → events_between a b events ≡ []
empty_between a b [] none = refl
empty_between a b (r ∷ events) none = rw (out r.step r.event) (empty_between a b events none)
  where
    out : (step : ℕ) (event : Event) → is_between a b step event ≡ false
    out step Mark = grind (arith, nat_tests)
    out step (Dma t) = grind (arith, nat_tests)
    out step (Lines set) = grind (arith, nat_tests)
    out step (Value v) = grind (arith, nat_tests)

-- ---- nothing was shown yet

none_read : (n m k : ℕ) → is_read read_indices (take n (drop m [])) k ≡ false
none_read n m k = rw (drop-nil m, take-nil n) refl

pub slices_nothing : (R : Recording) (saved : List (Option SavedMemory)) (pages from to : ℕ)
    → Slices R saved [] (nothing_kept pages from to)
slices_nothing R saved pages from to = record {
  kept = λ above. tt;
  there = λ above passed. absurd (omega arith);
  marks = λ above k inside. get_or-replicate pages k false false
      (omega (arith, inside, length-replicate {A = Bool} pages false)) ∙ sym (none_read (to - from) (from - R.base) k);
  events = λ above order. sym (empty_between from (min to (R.base + 0)) R.events (omega (arith, above)));
}

-- ---- the machine before a step

pub slices_seen : (R : Recording) (given : List StepRec) (s new : Slicing) (step : ℕ) (m : MachineState)
    (saved now : List (Option SavedMemory)) → step ≡ R.base + length given
    → run_of (hart_step R.split) R (length given) ≡ Some (record { machine = m; records = given })
    → IsSeen (step == s.from) m saved now s new → Slices R saved given s → Slices R now given new
slices_seen R given s new step m saved now here run seen so_far =
    elim (cases_eq step s.from) [
      | inl same ↦
          let kept = subst (λ (t : Bool). IsSeen t m saved now s new) (eq-eqb step s.from same) seen in
          subst (λ (x : Slicing). Slices R now given x) (sym kept.1.1) (record {
            kept = λ above.
                let count : s.from - R.base ≡ length given = omega arith in
                (record { machine = m; records = given }, (rw count run, kept.1.0));
            there = λ above passed. refl;
            marks = so_far.marks;
            events = so_far.events;
          })
      | inr other ↦
          let still = subst (λ (t : Bool). IsSeen t m saved now s new) (ne_eqb step s.from other) seen in
          rw (still.0, still.1) so_far
    ]

-- Once the run stood before the window's first step, the machine is kept.
pub seen_there : (R : Recording) (given : List StepRec) (s new : Slicing) (step : ℕ) (m : MachineState)
    (saved now : List (Option SavedMemory)) → step ≡ R.base + length given → IsSeen (step == s.from) m saved now s new
    → Slices R saved given s → R.base ≤ s.from → s.from ≤ step → IsSome new.moment
seen_there R given s new step m saved now here seen so_far above passed =
    elim (cases_eq step s.from) [
      | inl same ↦
          let kept = subst (λ (t : Bool). IsSeen t m saved now s new) (eq-eqb step s.from same) seen in
          ap (λ (x : Slicing). is_some x.moment) kept.1.1
      | inr other ↦
          let still = subst (λ (t : Bool). IsSeen t m saved now s new) (ne_eqb step s.from other) seen in
          rw still.1 (so_far.there above (omega (arith, other)))
    ]

-- ---- one step more

-- a step of the window
read_within : (n m k : ℕ) (given : List StepRec) (rec : StepRec) → m ≤ length given → length given < m + n
    → is_read read_indices (take n (drop m (given ++ rec ∷ []))) k ≡ (is_read read_indices (take n (drop m given)) k
    || any_in_page (read_indices rec) k)
read_within n m k given rec from to =
    let front : take n (drop m given) ≡ drop m given = take_all n (drop m given) (omega (arith, length-drop m given)) in
    let whole : take n (drop m (given ++ rec ∷ [])) ≡ drop m (given ++ rec ∷ []) =
    take_all n (drop m (given ++ rec ∷ [])) (omega (
      arith,
      length-drop m (given ++ rec ∷ []),
      length-append given (rec ∷ []),
    )) in
    rw (front, whole) (is_read-more read_indices m k given rec from)

-- one before it
read_before : (n m k : ℕ) (given : List StepRec) (rec : StepRec) → length given < m
    → is_read read_indices (take n (drop m (given ++ rec ∷ []))) k ≡ is_read read_indices (take n (drop m given)) k
read_before n m k given rec before =
    rw (drop_all m given (omega arith), drop_all m (given ++ rec ∷ []) (omega (arith, length-append given (rec ∷ []))))
    refl

-- one behind it
read_behind : (n m k : ℕ) (given : List StepRec) (rec : StepRec) → m ≤ length given → m + n ≤ length given
    → is_read read_indices (take n (drop m (given ++ rec ∷ []))) k ≡ is_read read_indices (take n (drop m given)) k
read_behind n m k given rec from behind =
    rw (
      drop-append-le m given (rec ∷ []) from,
      take-append-le n (drop m given) (rec ∷ [])
          (omega (arith, length-drop m given)),
    ) refl

marks_fed : (R : Recording) (given : List StepRec) (s : Slicing) (new : List Bool) (step : ℕ) (rec : StepRec) (k : ℕ)
    → R.base ≤ s.from → step ≡ R.base + length given
    → get_or new k false ≡ (get_or s.marks k false || any_in_page (window_reads s step rec) k)
    → get_or s.marks k false ≡ is_read read_indices (take (s.to - s.from) (drop (s.from - R.base) given)) k
    → get_or new k false ≡ is_read read_indices (take (s.to - s.from) (drop (s.from - R.base) (given ++ rec ∷ []))) k
marks_fed R given s new step rec k above here adds so_far =
    elim (cases_lt step s.from) [
      | inl before ↦
          let out : any_in_page (window_reads s step rec) k ≡ false = rw (lt-leb s.from step before) refl in
          unmarked out (read_before (s.to - s.from) (s.from - R.base) k given rec (omega arith))
      | inr from ↦
          elim (cases_lt step s.to) [
            | inl inside ↦
                let same : any_in_page (window_reads s step rec) k ≡ any_in_page (read_indices rec) k =
                rw (le-leb s.from step from, lt-ltb step s.to inside) refl in
                adds ∙ rw (same, so_far) (sym (read_within (s.to - s.from) (s.from - R.base) k given rec (omega arith)
                (omega arith)))
            | inr behind ↦
                let out : any_in_page (window_reads s step rec) k ≡ false =
                rw (le-leb s.from step from, le-ltb step s.to behind) refl in
                unmarked out (read_behind (s.to - s.from) (s.from - R.base) k given rec (omega arith) (omega arith))
          ]
    ]
  where
    unmarked : any_in_page (window_reads s step rec) k ≡ false
        → is_read read_indices (take (s.to - s.from) (drop (s.from - R.base) (given ++ rec ∷ []))) k
        ≡ is_read read_indices (take (s.to - s.from) (drop (s.from - R.base) given)) k
        → get_or new k false ≡ is_read read_indices (take (s.to - s.from) (drop (s.from - R.base) (given ++ rec ∷ [])))
        k
    unmarked out same = adds ∙ rw (out, same, or_false) so_far

-- the events of a step are those of the recording at it
pub record AreEventsOf (R : Recording) (step : ℕ) (marked : Bool) (due : Due) : Type 0 where
  pub handed : due ≡ due_at R.events step
  pub mark : HasOrder R → marked ≡ has_mark step R.events

events_fed : (R : Recording) (s : Slicing) (step n : ℕ) (marked : Bool) (due : Due) → R.base ≤ s.from → HasOrder R
    → n ≡ step + 1 → AreEventsOf R step marked due
    → s.events ≡ events_between s.from (min s.to step) R.events
    → s.events ++ window_events s step marked due ≡ events_between s.from (min s.to n) R.events
events_fed R s step n marked due above order next are so_far =
    elim (cases_lt step s.from) [
      | inl before ↦
          let none = so_far ∙ empty_between s.from (min s.to step) R.events (omega (arith, before)) in
          let still = empty_between s.from (min s.to n) R.events (omega (arith, before, next)) in
          rw (lt-leb s.from step before, none, still) refl
      | inr from ↦
          elim (cases_lt step s.to) [
            | inl inside ↦
                let here : min s.to step ≡ step = omega (arith, inside) in
                let more : min s.to n ≡ suc step = omega (arith, inside, next) in
                let all = step_more R.pages s.from step _ R.events R.end order from in
                rw (le-leb s.from step from, lt-ltb step s.to inside, are.handed, are.mark order)
                (ap (λ xs. xs ++ step_events step (not (step == s.from) && has_mark step R.events)
                (due_at R.events step))
                (so_far ∙ ap (λ m. events_between s.from m R.events) here)
                ∙ sym all ∙ ap (λ m. events_between s.from m R.events) (sym more))
            | inr behind ↦
                let here : min s.to step ≡ s.to = omega (arith, behind) in
                let still : min s.to n ≡ s.to = omega (arith, behind, next) in
                rw (le-leb s.from step from, le-ltb step s.to behind)
                (append-nil s.events ∙ so_far ∙ ap (λ m. events_between s.from m R.events) (here ∙ sym still))
          ]
    ]

pub slices_fed : (R : Recording) (saved : List (Option SavedMemory)) (given : List StepRec) (s : Slicing)
    (new : List Bool) (events : List Recorded)
    (step : ℕ) (rec : StepRec) (marked : Bool) (due : Due) → step ≡ R.base + length given
    → AddsMarks s.marks new (window_reads s step rec) → events ≡ s.events ++ window_events s step marked due
    → AreEventsOf R step marked due → (R.base ≤ s.from → s.from ≤ step → IsSome s.moment)
    → Slices R saved given s → Slices R saved (given ++ rec ∷ []) (record s { marks = new; events = events })
slices_fed R saved given s new events step rec marked due here adds more are seen so_far = record {
  events = λ above order.
      let size = length-append given (rec ∷ []) in
      let before = so_far.events above order ∙ ap (λ n. events_between s.from (min s.to n) R.events) (sym here) in
      more ∙ events_fed R s step _ marked due above order (omega (arith, here, size)) are before;
  kept = so_far.kept;
  there = λ above passed. seen above (omega (arith, length-append given (rec ∷ [])));
  marks = λ above k inside.
      let within : k < length s.marks = omega (arith, adds.size) in
      marks_fed R given s new step rec k above here (adds.pages k within) (so_far.marks above k within);
}

-- ---- the window

-- Where all steps have these records, the pages that are marked are those that the window's steps read.
pub window_marks : (R : Recording) (saved : List (Option SavedMemory)) (given : List StepRec) (s : Slicing)
    (after : Run StepRec) (rest : List StepRec)
    (k : ℕ) → Slices R saved given s → R.base ≤ s.from → s.from ≤ s.to
    → k < length s.marks → given ≡ after.records ++ rest → length after.records ≡ s.to - R.base
    → get_or s.marks k false ≡ is_read read_indices (drop (s.from - R.base) after.records) k
window_marks R saved given s after rest k so_far above some inside parts count =
    let m : ℕ = s.from - R.base in
    let size : length (drop m after.records) ≡ s.to - s.from = omega (arith, length-drop m after.records) in
    let front : drop m given ≡ drop m after.records ++ rest =
    rw parts (drop-append-le m after.records rest (omega arith)) in
    let same : take (s.to - s.from) (drop m given) ≡ drop m after.records =
    rw front (take_at (drop m after.records) rest (s.to - s.from) size) in
    so_far.marks above k inside ∙ ap (λ (records : List StepRec). is_read read_indices records k) same
