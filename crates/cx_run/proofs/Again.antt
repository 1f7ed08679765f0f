-- The steps of a run, from one of them on, run again.
use Rattle.std.proofs.Common.{◌≡◌, ℕ, zero, suc, ◌+◌, ◌-◌, ◌<◌, ◌≤◌, List, [], ◌∷◌, ◌++◌, length, drop, Option, Some}
use Rattle.std.proofs.Common.{refl, sym, ap, ◌∙◌, arith}
use Rattle.std.proofs.lemmas.List.{drop-append-le, drop_all}
use Rattle.cx_log.specs.Recording.{Recording}
use Rattle.cx_machine.specs.Step.{Step}
use Rattle.cx_run.specs.Due.{due_at}
use Rattle.cx_run.specs.Run.{Run, run_of}
use Rattle.cx_run.specs.Window.{recorded_from}
use Rattle.cx_run.proofs.Events.{due_at-events_between}
use Rattle.cx_run.proofs.Runs.{length-records, run_of-before, run_of-last, run_of-next}

one_run : {Rec : Type 0} (o : Option (Run Rec)) (run other : Run Rec) → o ≡ Some run → o ≡ Some other → other ≡ run
one_run o run other is also = cc

-- A run that begins with the machine that another stands at, and to whose steps the same is due, goes as that one goes
-- on.
pub run_goes_on : {Rec : Type 0} (step : Step Rec) (R S : Recording) (m k : ℕ) (before after : Run Rec)
    → run_of step R m ≡ Some before → S.start ≡ before.machine.state → S.memory ≡ before.machine.memory
    → ((j : ℕ) → j < k → due_at S.events (S.base + j) ≡ due_at R.events (R.base + (m + j)))
    → run_of step R (m + k) ≡ Some after
    → run_of step S k ≡ Some (record { machine = after.machine; records = drop m after.records })
run_goes_on {Rec} step R S m zero before after is state memory due there =
    let here : m + zero ≡ m = omega arith in
    let same : after ≡ before = one_run (run_of step R m) before after is (rw here at there) in
    let none : drop m before.records ≡ [] =
    drop_all m before.records (omega (arith, length-records step R m before is)) in
    rw (same, none, state, memory) refl
run_goes_on {Rec} step R S m (suc k) before after is state memory due there =
    let next : m + suc k ≡ suc (m + k) = omega arith in
    let on : run_of step R (suc (m + k)) ≡ Some after = ap (run_of step R) (sym next) ∙ there in
    let mid = run_of-before step R (m + k) after on in
    let last = run_of-last step R (m + k) mid.0 after mid.1 on in
    let so_far = run_goes_on step R S m k before mid.0 is state memory (λ j below. due j (omega arith)) mid.1 in
    let here = due k (omega arith) in
    let count : length mid.0.records ≡ m + k = length-records step R (m + k) mid.0 mid.1 in
    let more : drop m (mid.0.records ++ last.stepped.rec ∷ []) ≡ drop m mid.0.records ++ last.stepped.rec ∷ [] =
    drop-append-le m mid.0.records (last.stepped.rec ∷ []) (omega (arith, count)) in
    run_of-next step S k (record { machine = mid.0.machine; records = drop m mid.0.records }) last.stepped so_far
    (rw here last.goes)
    ∙ ap (λ (xs : List Rec). Some (record { machine = last.stepped.machine; records = xs })) (sym more)
    ∙ ap (λ (run : Run Rec). Some (record { machine = run.machine; records = drop m run.records })) (sym last.leaves)

pub window_runs_again : {Rec : Type 0} (step : Step Rec) (R : Recording) (a b : ℕ) (before after : Run Rec)
    → R.base ≤ a → a ≤ b → run_of step R (a - R.base) ≡ Some before → run_of step R (b - R.base) ≡ Some after
    → run_of step (recorded_from R a b before.machine) (b - a)
    ≡ Some (record { machine = after.machine; records = drop (a - R.base) after.records })
window_runs_again step R a b before after from to up_to_a up_to_b =
    let length_is : a - R.base + (b - a) ≡ b - R.base = omega arith in
    run_goes_on step R (recorded_from R a b before.machine) (a - R.base) (b - a) before after up_to_a refl refl
    (λ j below.
    let here : R.base + (a - R.base + j) ≡ a + j = omega arith in
    due_at-events_between a b (a + j) R.events (omega arith) (omega arith) ∙ ap (due_at R.events) (sym here))
    (ap (run_of step R) length_is ∙ up_to_b)
