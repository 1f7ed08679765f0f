-- The run of a recording, step by step.
use Rattle.std.proofs.Common.{◌≡◌, ℕ, zero, suc, ◌+◌, ◌≤◌, List, [], ◌∷◌, ◌++◌, length, take, Option, None, Some}
use Rattle.std.proofs.Common.{IsSome, IsSomeAnd, is_some, refl, sym, ap, ◌∙◌, inl, inr, append_assoc, append-nil}
use Rattle.std.proofs.Common.{add-one, arith}
use Rattle.std.proofs.lemmas.List.{length_push, take_at}
use Rattle.std.proofs.lemmas.Bool.{cases_eq}
use Rattle.cx_log.specs.Recording.{Recording}
use Rattle.cx_machine.specs.Due.{Due}
use Rattle.cx_run.specs.Due.{due_at}
use Rattle.cx_machine.specs.Step.{Step, Stepped}
use Rattle.cx_run.specs.Run.{Run, go_on, next_run, run_of}

-- The step by which a run goes on to another.
pub record GoesOn {Rec : Type 0} (step : Step Rec) (due : Due) (run next : Run Rec) : Type 0 where
  pub stepped : Stepped Rec
  pub goes : step run.machine due ≡ Some stepped
  pub leaves : next ≡ record { machine = stepped.machine; records = run.records ++ stepped.rec ∷ [] }

goes_on : {Rec : Type 0} (step : Step Rec) (due : Due) (run next : Run Rec) (outcome : Option (Stepped Rec))
    → step run.machine due ≡ outcome → go_on run outcome ≡ Some next → GoesOn step due run next
goes_on step due run next None goes gives = absurd (cc)
goes_on step due run next (Some stepped) goes gives = record { stepped = stepped; goes = goes; leaves = cc }

-- From the run of n steps to that of one more.
pub run_of-last : {Rec : Type 0} (step : Step Rec) (R : Recording) (n : ℕ) (run next : Run Rec)
    → run_of step R n ≡ Some run → run_of step R (suc n) ≡ Some next → GoesOn step (due_at R.events (R.base + n)) run
    next
run_of-last step R n run next is gives = goes_on step due run next (step run.machine due) refl (rw is at gives)
  where
    due : Due
    due = due_at R.events (R.base + n)

-- Where the run of one step more is there, so is this one.
pub run_of-before : {Rec : Type 0} (step : Step Rec) (R : Recording) (n : ℕ) (next : Run Rec)
    → run_of step R (suc n) ≡ Some next → (run : Run Rec) × (run_of step R n ≡ Some run)
run_of-before {Rec} step R n next gives = from_run (run_of step R n) refl gives
  where
    from_run : (before : Option (Run Rec)) → run_of step R n ≡ before
        → next_run step (due_at R.events (R.base + n)) before ≡ Some next → (run : Run Rec)
        × (run_of step R n ≡ Some run)
    from_run None is gives = absurd (cc)
    from_run (Some run) is gives = (run, is)

-- The run goes on where its next step is carried out, and only there.
pub run_of-next : {Rec : Type 0} (step : Step Rec) (R : Recording) (n : ℕ) (run : Run Rec) (stepped : Stepped Rec)
    → run_of step R n ≡ Some run → step run.machine (due_at R.events (R.base + n)) ≡ Some stepped
    → run_of step R (suc n) ≡ Some (record { machine = stepped.machine; records = run.records ++ stepped.rec ∷ [] })
run_of-next step R n run stepped is goes = rw (is, goes) refl

pub run_of-stops : {Rec : Type 0} (step : Step Rec) (R : Recording) (n : ℕ) (run : Run Rec) → run_of step R n ≡ Some run
    → step run.machine (due_at R.events (R.base + n)) ≡ None → run_of step R (suc n) ≡ None
run_of-stops step R n run is stops = rw (is, stops) refl

-- A run that begins with the run of fewer steps.
pub record BeginsWith {Rec : Type 0} (step : Step Rec) (R : Recording) (m : ℕ) (after : Run Rec) : Type 0 where
  pub run : Run Rec
  pub is : run_of step R m ≡ Some run
  pub rest : List Rec
  pub records : after.records ≡ run.records ++ rest

begins_with_itself : {Rec : Type 0} (step : Step Rec) (R : Recording) (m n : ℕ) (after : Run Rec) → m ≡ n
    → run_of step R n ≡ Some after → BeginsWith step R m after
begins_with_itself step R m n after same is = record {
  run = after;
  is = rw same is;
  rest = [];
  records =
      sym (append-nil after.records);
}

begins_before : {Rec : Type 0} (step : Step Rec) (R : Recording) (m : ℕ) (due : Due) (run after : Run Rec)
    → GoesOn step due run after → BeginsWith step R m run → BeginsWith step R m after
begins_before step R m due run after last front = record {
  run = front.run;
  is = front.is;
  rest =
      front.rest ++ last.stepped.rec ∷ [];
  records = rw (last.leaves, front.records, append_assoc) refl;
}

pub run_of-begins : {Rec : Type 0} (step : Step Rec) (R : Recording) (m n : ℕ) (after : Run Rec) → m ≤ n
    → run_of step R n ≡ Some after → BeginsWith step R m after
run_of-begins step R m zero after least is = begins_with_itself step R m zero after (omega arith) is
run_of-begins step R m (suc n) after least is =
    let before = run_of-before step R n after is in
    let last = run_of-last step R n before.0 after before.1 is in
    let front : m ≤ n → BeginsWith step R m before.0 = λ below. run_of-begins step R m n before.0 below before.1 in
    elim (cases_eq m (suc n)) [
      | inl same ↦ begins_with_itself step R m (suc n) after same is
      | inr other ↦ begins_before step R m (due_at R.events (R.base + n)) before.0 after last (front (omega arith))
    ]

pub length-records : {Rec : Type 0} (step : Step Rec) (R : Recording) (n : ℕ) (run : Run Rec)
    → run_of step R n ≡ Some run → length run.records ≡ n
length-records step R zero run is = let same : run ≡ record {
  machine = record { state = R.start; memory = R.memory };
  records = [];
} = cc in ap (λ r. length r.records) same
length-records step R (suc n) run is =
    let before = run_of-before step R n run is in
    let last = run_of-last step R n before.0 run before.1 is in
    let so_far : length before.0.records ≡ n = length-records step R n before.0 before.1 in
    rw (last.leaves, length_push, so_far, add-one) refl

-- Where the run of so many steps is there, the runs of fewer are.
pub some_run : {Rec : Type 0} (o : Option (Run Rec)) → IsSome o → (run : Run Rec) × (o ≡ Some run)
some_run None is = absurd (cc)
some_run (Some run) is = (run, refl)

pub run_of-fewer : {Rec : Type 0} (step : Step Rec) (R : Recording) (m n : ℕ) → m ≤ n → IsSome (run_of step R n)
    → IsSome (run_of step R m)
run_of-fewer step R m n fewer is =
    let after = some_run (run_of step R n) is in
    let front = run_of-begins step R m n after.0 fewer after.1 in
    ap is_some front.is

pub run_of-front : {Rec : Type 0} (step : Step Rec) (R : Recording) (m n : ℕ) (after : Run Rec) → m ≤ n
    → run_of step R n ≡ Some after → IsSomeAnd (run_of step R m) (λ before. before.records ≡ take m after.records)
run_of-front step R m n after fewer is =
    let front = run_of-begins step R m n after fewer is in
    rw front.is (sym (ap (take m) front.records ∙ take_at front.run.records front.rest m
    (length-records step R m front.run front.is)))
