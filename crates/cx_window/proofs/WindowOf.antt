-- What was kept of a whole run is the window.
use Rattle.std.proofs.Common.{nat_le, nat_lt, ◌≡◌, ℕ, ◌+◌, ◌-◌, ◌<◌, ◌≤◌, ◌&&◌, min, Bool, true, false, List, []}
use Rattle.std.proofs.Common.{length}
use Rattle.std.proofs.Common.{drop, get_or, Option, None, Some, IsSome, IfSome, Ok, arith, refl, ap, sym, subst, ◌∙◌}
use Rattle.std.proofs.lemmas.Bool.{leb-true, ltb-true}
use Rattle.std.proofs.lemmas.List.{length-replicate}
use Rattle.std.specs.Option.{option_map}
use Rattle.cx_csr.specs.declared.state.State.{State}
use Rattle.cx_hart.specs.Whole.{AtMoment, IsLive, machine_at}
use Rattle.cx_machine.specs.Machine.{MachineState}
use Rattle.cx_ram.specs.PhysicalMemory.{SavedMemory, page_of}
use Rattle.cx_hart.specs.HartStep.{hart_step}
use Rattle.cx_hart.specs.Reads.{read_indices}
use Rattle.cx_hart.specs.declared.record.StepRec.{StepRec}
use Rattle.cx_hart.proofs.SameStep.{is_framed}
use Rattle.cx_hart.proofs.StepKeeps.{keeps_machine}
use Rattle.cx_hart.proofs.StepSizes.{sets_lines}
use Rattle.cx_log.specs.Order.{InOrder, at_start}
use Rattle.cx_log.specs.Reading.{Opened}
use Rattle.cx_log.specs.Recording.{Recorded, Recording}
use Rattle.cx_log.specs.Scan.{Scan, decoded}
use Rattle.cx_log.specs.declared.header.Header.{Header}
use Rattle.cx_run.specs.Run.{Accepts, Run, run_of}
use Rattle.cx_run.specs.Window.{IsWindow, events_between, has_window, is_read, kept_pages, window_from}
use Rattle.cx_run.proofs.Accepted.{window_is_accepted}
use Rattle.cx_run.proofs.KeptPages.{kept_pages-agree}
use Rattle.cx_run.proofs.Runs.{length-records, run_of-begins}
use Rattle.cx_run.proofs.WindowOrder.{order_ends}
use Rattle.cx_log.specs.declared.limits.TheConstants.{STEP_LIMIT}
use Rattle.cx_window.specs.Cut.{Cuts, HasEnded, HasNone, IsJudged}
use Rattle.cx_window.specs.Slice.{Finishes, Sliced, is_marked, memory_at, slice_of, written_of}
use Rattle.cx_window.specs.Slicing.{IsFit, IsKeptOf, SameWindow, Slices, Slicing, nothing_kept}
use Rattle.cx_window.proofs.RunSlices.{slices_nothing, window_marks}

-- the header is that of the recording
pub record IsHeaderOf (R : Recording) (header : Header) : Type 0 where
  pub version : header.version ≡ R.version
  pub split : header.split ≡ R.split
  pub pages : header.pages ≡ R.pages
  pub base : header.base ≡ R.base

same_window : (R : Recording) (header : Header) (saved : List (Option SavedMemory)) (s : Slicing) (x : AtMoment)
    (before after : Run StepRec)
    → IsHeaderOf R header → s.events ≡ events_between s.from s.to R.events
    → x.state ≡ before.machine.state → memory_at saved x ≡ before.machine.memory
    → ((k : ℕ) → k < R.pages → is_marked s.marks k ≡ is_read read_indices (drop (s.from - R.base) after.records) k)
    → written_of (slice_of header saved s x) ≡ window_from read_indices R s.from s.to before after
same_window R header saved s x before after is events state memory marks =
    let kept : kept_pages (is_marked s.marks) (memory_at saved x) R.pages ≡ kept_pages
    (is_read read_indices (drop (s.from - R.base) after.records)) before.machine.memory R.pages =
    kept_pages-agree (is_marked s.marks) (is_read read_indices (drop (s.from - R.base) after.records))
    (memory_at saved x) before.machine.memory R.pages marks (λ k below read. rw memory refl) in
    rw (is.version, is.split, is.pages, state, kept, events) refl

-- a state with a memory that was saved
abbrev machine_with : State → SavedMemory → MachineState
machine_with state s = record { state = state; memory = s.memory }

-- the memory of a moment that stands for a machine, and its state
pub at_moment : (saved : List (Option SavedMemory)) (x : AtMoment) (m : MachineState) → machine_at saved x ≡ Some m
    → (x.state ≡ m.state) × (memory_at saved x ≡ m.memory)
at_moment saved x m is = by_saved (get_or saved x.snap None) is
  where
    some_is : (n m : MachineState) → Some n ≡ Some m → n ≡ m
    some_is n m e = cc

    by_saved : (found : Option SavedMemory)
        → option_map (λ (s : SavedMemory). machine_with x.state s) found ≡ Some m
        → (x.state ≡ m.state) × (elim found [ None ↦ [] | Some s ↦ s.memory ] ≡ m.memory)
    by_saved None e = cc
    by_saved (Some s) e =
        let same : machine_with x.state s ≡ m = some_is (machine_with x.state s) m e in
        (ap (λ (n : MachineState). n.state) same, ap (λ (n : MachineState). n.memory) same)

-- a page of it
pub page_at : (saved : List (Option SavedMemory)) (x : AtMoment) (page : ℕ) (bytes : List ℕ) → IsLive saved x
    → IfSome (machine_at saved x) (λ m. bytes ≡ page_of m.memory page) → bytes ≡ page_of (memory_at saved x) page
page_at saved x page bytes live is = by_saved (get_or saved x.snap None) live is
  where
    by_saved : (found : Option SavedMemory) → IsSome found
        → IfSome (option_map (λ (s : SavedMemory). machine_with x.state s) found)
        (λ (m : MachineState). bytes ≡ page_of m.memory page)
        → bytes ≡ page_of (elim found [ None ↦ [] | Some s ↦ s.memory ]) page
    by_saved None none e = cc
    by_saved (Some s) some e = e

-- A run of the recording's steps that was shown whole, and the window that was kept of it.
pub record HasKept (R : Recording) (header : Header) (saved : List (Option SavedMemory)) (s : Slicing) : Type 0 where
  pub accepted : Accepts (hart_step R.split) R
  pub header_is : IsHeaderOf R header
  pub run : Run StepRec
  pub whole : run_of (hart_step R.split) R (R.end - R.base) ≡ Some run
  pub slices : Slices R saved run.records s
  pub size : length s.marks ≡ R.pages
  pub above : R.base ≤ s.from
  pub some : s.from < s.to
  pub to : s.to ≤ R.end

counted : (R : Recording) (header : Header) (saved : List (Option SavedMemory)) (s : Slicing)
    → (kept : HasKept R header saved s)
    → length kept.run.records ≡ R.end - R.base
counted R header saved s kept = length-records (hart_step R.split) R (R.end - R.base) kept.run kept.whole

pub there_of : (R : Recording) (header : Header) (saved : List (Option SavedMemory)) (s : Slicing)
    → HasKept R header saved s → IsSome s.moment
there_of R header saved s kept =
    kept.slices.there kept.above (omega (arith, counted R header saved s kept, kept.above, kept.some, kept.to))

-- The window, with all of the memory before the first of its steps.
pub record IsWindowOf (R : Recording) (a b : ℕ) (slice : Sliced) : Type 0 where
  pub window : IsWindow (hart_step R.split) read_indices R a b (written_of slice)
  pub memory : slice.memory ≡ window.before.machine.memory

pub slices_window : (R : Recording) (header : Header) (saved : List (Option SavedMemory)) (s : Slicing) (x : AtMoment)
    → HasKept R header saved s → s.moment ≡ Some x → IsWindowOf R s.from s.to (slice_of header saved s x)
slices_window R header saved s x k started =
    let kept : IsKeptOf R saved s (Some x) = subst (λ (o : Option AtMoment). IsKeptOf R saved s o) started
    (k.slices.kept k.above) in
    let machine = at_moment saved x kept.0.machine kept.1.1 in
    let after = run_of-begins (hart_step R.split) R (s.to - R.base) (R.end - R.base) k.run (omega (arith, k.to)) k.whole
    in
    let count : length after.run.records ≡ s.to - R.base = length-records (hart_step R.split) R (s.to - R.base)
    after.run after.is in
    let all = counted R header saved s k in
    let last : min s.to (R.base + length k.run.records) ≡ s.to = omega (arith, all, k.above, k.some, k.to) in
    let events : s.events ≡ events_between s.from s.to R.events = k.slices.events k.above k.accepted.rules.events
    ∙ ap (λ n. events_between s.from n R.events) last in
    record {
      window = record {
        from = k.above;
        some = k.some;
        to = k.to;
        before = kept.0;
        up_to_a = kept.1.0;
        after = after.run;
        up_to_b = after.is;
        is = same_window R header saved s x kept.0 after.run k.header_is events machine.0 machine.1
            (λ n below. window_marks R saved k.run.records s after.run after.rest n k.slices k.above
            (omega (arith, k.some)) (omega (arith, below, k.size)) after.records count);
      };
      memory = machine.1;
    }

-- its events are in order
pub window_order : (R : Recording) (header : Header) (saved : List (Option SavedMemory)) (s : Slicing) (x : AtMoment)
    → HasKept R header saved s → s.moment ≡ Some x → InOrder header.pages (at_start s.from x.state) s.events s.to
window_order R header saved s x kept started =
    let window = (slices_window R header saved s x kept started).window in
    let accepted = window_is_accepted (hart_step R.split) read_indices R (written_of (slice_of header saved s x)) s.from
    s.to (is_framed R.split) (keeps_machine R.split) (sets_lines R.split) kept.accepted.rules window in
    accepted.rules.events

-- ---- a slicer that was shown a replay to its end

pub nothing_shown : (R : Recording) (saved : List (Option SavedMemory)) (pages from to : ℕ) (first : Slicing)
    → first ≡ nothing_kept pages from to → Slices R saved [] first
nothing_shown R saved pages from to first nothing = rw nothing (slices_nothing R saved pages from to)

pub nothing_fits : (pages from to : ℕ) (saved : List (Option SavedMemory)) (first : Slicing)
    → first ≡ nothing_kept pages from to → IsFit pages saved first
nothing_fits pages from to saved first nothing = rw nothing (record {
  marks = length-replicate pages false;
  moment = tt;
})

-- the steps lie in the run
lies : (a b c : Bool) → (a && b && c) ≡ true → (a ≡ true) × ((b ≡ true) × (c ≡ true))
lies true true true e = (refl, (refl, refl))
lies true true false e = cc
lies true false c e = cc
lies false b c e = cc

-- what was kept of a window that is there
pub kept_of : (o : Opened) (whole : Scan) (at from to : ℕ) (header : Header) (saved : List (Option SavedMemory))
    (first s : Slicing) → o.header ≡ header → IsJudged o whole → HasEnded o whole at saved s
    → first ≡ nothing_kept header.pages from to → SameWindow first s
    → has_window (decoded o whole) from to ≡ true → HasKept (decoded o whole) header saved s
kept_of o whole at from to header saved first s is judged ended nothing same there =
    let R : Recording = decoded o whole in
    let gave = ended.gave in
    let parts = lies (nat_le R.base from) (nat_lt from to) (nat_le to R.end) there in
    let from_is : s.from ≡ from = same.from ∙ ap (λ (x : Slicing). x.from) nothing in
    let to_is : s.to ≡ to = same.to ∙ ap (λ (x : Slicing). x.to) nothing in
    let base : R.base ≤ from = leb-true R.base from parts.0 in
    let some : from < to = ltb-true from to parts.1.0 in
    let below : to ≤ R.end = leb-true to R.end parts.1.1 in
    let count : length gave.given ≡ R.end - R.base = omega (arith, gave.all) in
    record {
      accepted = judged ended.good;
      header_is = record {
        version = ap (λ (h : Header). h.version) (sym is);
        split = ap (λ (h : Header). h.split) (sym is);
        pages = ap (λ (h : Header). h.pages) (sym is);
        base = ap (λ (h : Header). h.base) (sym is);
      };
      run = record { machine = gave.machine; records = gave.given };
      whole = rw (← count) gave.run;
      slices = gave.slices;
      size = same.size ∙ ap (λ (x : Slicing). length x.marks) nothing ∙ length-replicate header.pages false
          ∙ ap (λ (h : Header). h.pages) (sym is);
      above = omega (arith, base, from_is);
      some = omega (arith, some, from_is, to_is);
      to = omega (arith, below, to_is);
    }

-- a slice that was finished is the window, and there is one
pub finishes_window : (o : Opened) (whole : Scan) (at from to end : ℕ) (may cut : Type 0) (header : Header)
    (saved : List (Option SavedMemory)) (first s : Slicing) (result : Option Sliced) → o.header ≡ header
    → IsJudged o whole → (may → HasEnded o whole at saved s) → first ≡ nothing_kept header.pages from to
    → SameWindow first s
    → (may → has_window (decoded o whole) from to ≡ true) → Finishes header saved s result
    → Cuts o whole from to end may cut (Ok result)
finishes_window o whole at from to end may cut header saved first s None is judged ended nothing same there none =
    λ h. absurd (never h)
  where
    by_start : HasKept (decoded o whole) header saved s → (m : Option AtMoment) → s.moment ≡ m
        → IfSome m (λ x. InOrder header.pages (at_start s.from x.state) s.events s.to → ⊥) → IsSome m → ⊥
    by_start kept None started none some = cc
    by_start kept (Some x) started none some = none (window_order (decoded o whole) header saved s x kept started)

    never : may → ⊥
    never h =
        let kept = kept_of o whole at from to header saved first s is judged (ended h) nothing same (there h) in
        by_start kept s.moment refl none (there_of (decoded o whole) header saved s kept)
finishes_window o whole at from to end may cut header saved first s
    (Some slice) is judged ended nothing same there found =
    λ h. (let kept = kept_of o whole at from to header saved first s is judged (ended h) nothing same (there h) in
    let from_is : s.from ≡ from = same.from ∙ ap (λ (x : Slicing). x.from) nothing in
    let to_is : s.to ≡ to = same.to ∙ ap (λ (x : Slicing). x.to) nothing in
    let window : IsWindowOf (decoded o whole) from to slice = rw (found.1.1, ← from_is, ← to_is)
    (slices_window (decoded o whole) header saved s found.0 kept found.1.0) in
    record { good = (ended h).good; window = window.window; memory = window.memory })

-- the window isn't there
pub lacks_window : (o : Opened) (whole : Scan) (at from to : ℕ) (header : Header)
    (saved : List (Option SavedMemory)) (s : Slicing) → o.header ≡ header → HasEnded o whole at saved s
    → (nat_le header.base from && nat_lt from to && nat_le to at) ≡ false
    → HasNone o whole from to
lacks_window o whole at from to header saved s is ended out = record {
  good = ended.good;
  lacks = rw (ap (λ (h : Header). h.base) is, ← ended.gave.ends) out;
}

pub has_it : (o : Opened) (whole : Scan) (at from to : ℕ) (header : Header)
    (saved : List (Option SavedMemory)) (s : Slicing) → o.header ≡ header → HasEnded o whole at saved s
    → (nat_le header.base from && nat_lt from to && nat_le to at) ≡ true
    → has_window (decoded o whole) from to ≡ true
has_it o whole at from to header saved s is ended out = rw (ap (λ (h : Header). h.base) is, ← ended.gave.ends) out

-- ---- what is finished

-- no events are in order from a step on that no recording begins at
pub late_start : (kept : Option AtMoment) (pages from to : ℕ) (events : List Recorded) → STEP_LIMIT ≤ from
    → IfSome kept (λ x. InOrder pages (at_start from x.state) events to → ⊥)
late_start None pages from to events late = tt
late_start (Some x) pages from to events late = λ order.
    (let ends = order_ends pages (at_start from x.state) events to order in absurd
    (omega (arith, ends.0, ends.1, late)))
