-- A window's run is the part of the run that it was cut from.
use Rattle.std.proofs.Common.{◌≡◌, ℕ, zero, suc, ◌+◌, ◌-◌, ◌*◌, ◌/◌, ◌<◌, ◌≤◌, List, [], ◌∷◌, ◌++◌, length, take, drop}
use Rattle.std.proofs.Common.{get_or, slice_index, Bool, true, IsTrue, Option, Some, IsSomeAnd, refl, sym, ap, ◌∙◌, inl}
use Rattle.std.proofs.Common.{inr, add-zero, add-suc, le_of_eq, arith}
use Rattle.std.proofs.lemmas.List.{drop-append-le, drop_all, get_or_past, drop-take, take_at}
use Rattle.std.proofs.lemmas.List.Elements.{All-from_get_or}
use Rattle.std.proofs.lemmas.Option.{same_Some}
use Rattle.std.proofs.lemmas.Bool.{cases_lt}
use Rattle.cx_map.specs.Map.{size_of_pages}
use Rattle.cx_map.specs.declared.TheConstants.{PAGE_SIZE}
use Rattle.cx_log.specs.Recording.{Recording}
use Rattle.cx_log.specs.Order.{KeepsRules}
use Rattle.cx_machine.specs.Machine.{MachineState}
use Rattle.cx_machine.specs.Due.{Due, IsDue}
use Rattle.cx_run.specs.Due.{due_at}
use Rattle.cx_machine.specs.Step.{Step, Stepped, IsSameStep, IsFramed}
use Rattle.cx_run.specs.Run.{Run, run_of}
use Rattle.cx_ram.specs.Agreement.{AgreeOn, SameWrites}
use Rattle.cx_run.specs.Window.{any_in_page, is_read, kept_pages, window_from, IsWindow}
use Rattle.cx_run.specs.Alone.{AgreeOnPages, RunsAlone}
use Rattle.cx_run.proofs.Runs.{GoesOn, run_of-before, run_of-last, run_of-next, BeginsWith, run_of-begins}
use Rattle.cx_run.proofs.Runs.{length-records}
use Rattle.cx_run.proofs.PagesRead.{any_in_page-at, is_read-at}
use Rattle.cx_run.proofs.KeptPages.{byte_of-kept_pages, length-kept_pages}
use Rattle.cx_run.proofs.Events.{due_at-events_between}
use Rattle.cx_run.proofs.Dues.{rules-well}

-- A step keeps the size of a memory of so many pages.
pub step_keeps_the_size : {Rec : Type 0} (step : Step Rec) (reads : Rec → List ℕ) (pages : ℕ) (p : MachineState)
    (due : Due) (stepped : Stepped Rec)
    → IsFramed step reads → IsDue pages due → length p.memory ≡ size_of_pages pages → step p due ≡ Some stepped
    → length stepped.machine.memory ≡ length p.memory
step_keeps_the_size step reads pages p due stepped frame well size goes =
    frame.keeps_size p due stepped goes (rw size well.transfers)

pub run_keeps_the_size : {Rec : Type 0} (step : Step Rec) (reads : Rec → List ℕ) (R : Recording) (n : ℕ) (run : Run Rec)
    → IsFramed step reads → KeepsRules R → run_of step R n ≡ Some run → length run.machine.memory ≡ R.pages * PAGE_SIZE
run_keeps_the_size step reads R zero run frame rules is =
    let same : run ≡ record { machine = record { state = R.start; memory = R.memory }; records = [] } = cc in
    ap (λ r. length r.machine.memory) same ∙ rules.memory.size
run_keeps_the_size step reads R (suc n) run frame rules is =
    let before = run_of-before step R n run is in
    let last = run_of-last step R n before.0 run before.1 is in
    let so_far : length before.0.machine.memory ≡ R.pages * PAGE_SIZE = run_keeps_the_size step reads R n before.0 frame
    rules before.1 in
    let kept : length last.stepped.machine.memory ≡ length before.0.machine.memory =
    step_keeps_the_size step reads R.pages before.0.machine (due_at R.events (R.base + n)) last.stepped frame
    (rules-well R (R.base + n) rules) so_far last.goes in
    rw (last.leaves) (kept ∙ so_far)

-- A step on the window's machine, where its pages are kept: the same record, and machines that agree again.
pub record StepsAlone {Rec : Type 0} (keep : ℕ → Bool) (stepped : Stepped Rec) (outcome : Option (Stepped Rec)) : Type 0
  where
    pub machine : MachineState
    pub given : outcome ≡ Some (record { machine = machine; rec = stepped.rec })
    pub agree : AgreeOnPages keep stepped.machine machine

agree_on_reads : (keep : ℕ → Bool) (p q : MachineState) (indices : List ℕ) → AgreeOnPages keep p q
    → ((page : ℕ) → any_in_page indices page ≡ true → keep page ≡ true) → AgreeOn indices p.memory q.memory
agree_on_reads keep p q indices agree kept = All-from_get_or (λ i. slice_index p.memory i ≡ slice_index q.memory i)
    indices 0 (λ j below. sym (agree.bytes (get_or indices j 0) (kept (get_or indices j 0 / PAGE_SIZE)
    (any_in_page-at indices j 0 below))))

agree_after_writes : (keep : ℕ → Bool) (p p' q : MachineState) (memory : List ℕ) → AgreeOnPages keep p q
    → length memory ≡ length p'.memory → SameWrites p.memory p'.memory q.memory memory
    → AgreeOnPages keep p' (record { state = p'.state; memory = memory })
agree_after_writes keep p p' q memory agree size writes = record {
  state = refl;
  size = size;
  bytes = λ i keeps. elim (writes i) [ inl same ↦ sym same | inr stays ↦ stays.1 ∙ agree.bytes i keeps ∙ sym stays.0 ];
}

pub step_alone : {Rec : Type 0} (step : Step Rec) (reads : Rec → List ℕ) (keep : ℕ → Bool) (p q : MachineState)
    (due : Due) (stepped : Stepped Rec)
    → IsFramed step reads → AgreeOnPages keep p q → step p due ≡ Some stepped
    → ((page : ℕ) → any_in_page (reads stepped.rec) page ≡ true → keep page ≡ true)
    → StepsAlone keep stepped (step q due)
step_alone step reads keep p q due stepped frame agree goes kept =
    let same : IsSameStep p stepped q (step q due) = frame.reads_record p q due stepped goes agree.state agree.size
    (agree_on_reads keep p q (reads stepped.rec) agree kept) in
    record {
      machine = record { state = stepped.machine.state; memory = same.memory };
      given = same.given;
      agree = agree_after_writes keep p stepped.machine q same.memory agree same.size same.writes;
    }

-- The window's machine before its first step.
start_agrees : (keep : ℕ → Bool) (machine : MachineState) (pages : ℕ) → length machine.memory ≡ pages * PAGE_SIZE
    → AgreeOnPages keep machine (record { state = machine.state; memory = kept_pages keep machine.memory pages })
start_agrees keep machine pages size = record {
  state = refl;
  size = kept_size ∙ sym size;
  bytes = bytes;
}
  where
    kept_size : length (kept_pages keep machine.memory pages) ≡ pages * PAGE_SIZE
    kept_size = length-kept_pages keep machine.memory pages (omega arith)

    bytes : (i : ℕ) → IsTrue (keep (i / PAGE_SIZE)) → slice_index (kept_pages keep machine.memory pages) i ≡ slice_index
        machine.memory i
    bytes i keeps =
        elim (cases_lt i (pages * PAGE_SIZE)) [
          | inl below ↦ byte_of-kept_pages keep machine.memory pages i (omega arith) below keeps
          | inr past ↦ get_or_past (kept_pages keep machine.memory pages) i 0 (omega (arith, kept_size))
              ∙ sym (get_or_past machine.memory i 0 (omega arith))
        ]

alone_at_start : {Rec : Type 0} (step : Step Rec) (reads : Rec → List ℕ) (R : Recording) (a b : ℕ)
    (before after : Run Rec) → IsFramed step reads → KeepsRules R → run_of step R (a - R.base) ≡ Some before
    → RunsAlone step (is_read reads (drop (a - R.base) after.records)) R a (window_from reads R a b before after) 0
alone_at_start step reads R a b before after frame rules up_to_a = record {
  there = before;
  in_the_whole = rw add-zero up_to_a;
  here = record { machine = start; records = [] };
  alone = refl;
  records = sym (drop_all (a - R.base) before.records (le_of_eq (length-records step R (a - R.base) before up_to_a)));
  machine = start_agrees keep before.machine R.pages (run_keeps_the_size step reads R (a - R.base) before frame rules
      up_to_a);
}
  where
    keep : ℕ → Bool
    keep = is_read reads (drop (a - R.base) after.records)

    start : MachineState
    start = record { state = before.machine.state; memory = kept_pages keep before.machine.memory R.pages }

-- One step more.
step_in_window : {Rec : Type 0} (step : Step Rec) (reads : Rec → List ℕ) (m : ℕ) (due : Due) (there next here : Run Rec)
    (rest records : List Rec)
    → IsFramed step reads → m ≤ length there.records → records ≡ next.records ++ rest
    → here.records ≡ drop m there.records → AgreeOnPages (is_read reads (drop m records)) there.machine here.machine
    → (last : GoesOn step due there next) → StepsAlone (is_read reads (drop m records)) last.stepped
    (step here.machine due)
step_in_window step reads m due there next here rest records frame from whole same agree last =
    step_alone step reads (is_read reads (drop m records)) there.machine here.machine due last.stepped frame agree
    last.goes
    (λ page reads_it. rw (whole, last.leaves) (is_read-at reads m page there.records rest last.stepped.rec from
    reads_it))

alone_goes_on : {Rec : Type 0} (step : Step Rec) (R W : Recording) (keep : ℕ → Bool) (a k : ℕ) (next : Run Rec)
    → run_of step R (suc (a - R.base + k)) ≡ Some next
    → (so_far : RunsAlone step keep R a W k)
    → (last : GoesOn step (due_at R.events (R.base + (a - R.base + k))) so_far.there next)
    → due_at R.events (R.base + (a - R.base + k)) ≡ due_at W.events (W.base + k)
    → StepsAlone keep last.stepped (step so_far.here.machine (due_at W.events (W.base + k)))
    → RunsAlone step keep R a W (suc k)
alone_goes_on {Rec} step R W keep a k next up_to so_far last same_due alone = record {
  there = next;
  in_the_whole = rw add-suc up_to;
  here = record { machine = alone.machine; records = so_far.here.records ++ last.stepped.rec ∷ [] };
  alone = run_of-next step W k so_far.here (record { machine = alone.machine; rec = last.stepped.rec }) so_far.alone
      alone.given;
  records = records;
  machine = rw last.leaves alone.agree;
}
  where
    so_many : length so_far.there.records ≡ a - R.base + k
    so_many = length-records step R (a - R.base + k) so_far.there so_far.in_the_whole

    records : so_far.here.records ++ last.stepped.rec ∷ [] ≡ drop (a - R.base) next.records
    records = rw (
      last.leaves,
      drop-append-le (a - R.base) so_far.there.records (last.stepped.rec ∷ [])
          (omega (arith, so_many)),
      so_far.records,
    ) refl

window_step : {Rec : Type 0} (step : Step Rec) (reads : Rec → List ℕ) (R : Recording) (a b k : ℕ)
    (before after : Run Rec)
    → IsFramed step reads → KeepsRules R → R.base ≤ a → a + suc k ≤ b
    → (longer : BeginsWith step R (suc (a - R.base + k)) after)
    → RunsAlone step (is_read reads (drop (a - R.base) after.records)) R a (window_from reads R a b before after) k
    → RunsAlone step (is_read reads (drop (a - R.base) after.records)) R a (window_from reads R a b before after)
    (suc k)
window_step {Rec} step reads R a b k before after frame rules from to longer so_far =
    let last : GoesOn step (due_at R.events (R.base + (m + k))) so_far.there longer.run =
    run_of-last step R (m + k) so_far.there longer.run so_far.in_the_whole longer.is in
    let alone = step_in_window step reads m (due_at R.events (R.base + (m + k))) so_far.there longer.run so_far.here
    longer.rest after.records frame (omega (arith, so_many)) longer.records so_far.records so_far.machine last in
    alone_goes_on step R W (is_read reads (drop m after.records)) a k longer.run longer.is so_far last same_due
    (rw same_due at alone)
  where
    m : ℕ
    m = a - R.base

    W : Recording
    W = window_from reads R a b before after

    so_many : length so_far.there.records ≡ m + k
    so_many = length-records step R (m + k) so_far.there so_far.in_the_whole

    same_due : due_at R.events (R.base + (m + k)) ≡ due_at W.events (a + k)
    same_due = let place : R.base + (m + k) ≡ a + k = omega arith in
        rw place (sym (due_at-events_between a b (a + k) R.events (omega arith) (omega arith)))

run_alone : {Rec : Type 0} (step : Step Rec) (reads : Rec → List ℕ) (R : Recording) (a b : ℕ) (before after : Run Rec)
    (k : ℕ)
    → IsFramed step reads → KeepsRules R → R.base ≤ a → run_of step R (a - R.base) ≡ Some before
    → run_of step R (b - R.base) ≡ Some after → a + k ≤ b
    → RunsAlone step (is_read reads (drop (a - R.base) after.records)) R a (window_from reads R a b before after) k
run_alone step reads R a b before after zero frame rules from up_to_a up_to_b to =
    alone_at_start step reads R a b before after frame rules up_to_a
run_alone step reads R a b before after (suc k) frame rules from up_to_a up_to_b to =
    let least : suc (a - R.base + k) ≤ b - R.base = omega arith in
    window_step step reads R a b k before after frame rules from to (run_of-begins step R (suc (a - R.base + k))
    (b - R.base) after least up_to_b)
    (run_alone step reads R a b before after k frame rules from up_to_a up_to_b (omega arith))

-- The first k steps of a window are those of the recording that it was cut from, from a on.
pub window_runs_alone : {Rec : Type 0} (step : Step Rec) (reads : Rec → List ℕ) (R W : Recording) (a b k : ℕ)
    → IsFramed step reads → KeepsRules R → (w : IsWindow step reads R a b W) → k ≤ b - a
    → RunsAlone step (is_read reads (drop (a - R.base) w.after.records)) R a W k
window_runs_alone step reads R W a b k frame rules w to =
    let some : a < b = w.some in
    rw w.is (run_alone step reads R a b w.before w.after k frame rules w.from w.up_to_a w.up_to_b (omega arith))

-- What lies behind the first m, of a list and of one that goes on.
part_of_list : {X : Type 0} (xs rest ys : List X) (m n : ℕ) → ys ≡ xs ++ rest → length xs ≡ m + n
    → drop m xs ≡ take n (drop m ys)
part_of_list xs rest ys m n is size = rw (is, ← drop-take m n (xs ++ rest), take_at xs rest (m + n) size) refl

-- The records of the whole window: those of any run of the recording that goes to its end or on, from a up to b.
pub window_records : {Rec : Type 0} (step : Step Rec) (reads : Rec → List ℕ) (R W : Recording) (a b n : ℕ)
    (run : Run Rec)
    → IsFramed step reads → KeepsRules R → IsWindow step reads R a b W → b - R.base ≤ n → run_of step R n ≡ Some run
    → IsSomeAnd (run_of step W (W.end - W.base)) (λ here. here.records ≡ take (b - a) (drop (a - R.base) run.records))
window_records {Rec} step reads R W a b n run frame rules w least is =
    rw (ends, alone.alone) (alone.records ∙ (ap (drop m) same_records ∙ part))
  where
    m : ℕ
    m = a - R.base

    alone : RunsAlone step (is_read reads (drop m w.after.records)) R a W (b - a)
    alone = window_runs_alone step reads R W a b (b - a) frame rules w (omega arith)

    ends : W.end - W.base ≡ b - a
    ends = rw w.is refl

    front : BeginsWith step R (b - R.base) run
    front = run_of-begins step R (b - R.base) n run least is

    place : m + (b - a) ≡ b - R.base
    place = let from : R.base ≤ a = w.from in let some : a < b = w.some in omega arith

    same_records : alone.there.records ≡ front.run.records
    same_records = ap (λ r. r.records) (same_Some alone.there front.run (sym alone.in_the_whole ∙ rw place front.is))

    so_many : length front.run.records ≡ m + (b - a)
    so_many = rw place (length-records step R (b - R.base) front.run front.is)

    part : drop m front.run.records ≡ take (b - a) (drop m run.records)
    part = part_of_list front.run.records front.rest run.records m (b - a) front.records so_many
