-- The run of a recording that was taped is the run that was driven.
use Rattle.std.proofs.Common.{◌≡◌, ℕ, zero, suc, ◌+◌, ◌≤◌, List, [], ◌∷◌, length, take, Some, refl, ap, ◌∙◌, arith}
use Rattle.cx_log.specs.Recording.{Recording}
use Rattle.cx_machine.specs.Due.{Due}
use Rattle.cx_machine.specs.Machine.{MachineState}
use Rattle.cx_machine.specs.Step.{Step}
use Rattle.std.proofs.Common.{Bool}
use Rattle.cx_run.specs.Driven.{at_first, driven, events_from, taped}
use Rattle.cx_run.specs.Due.{due_at}
use Rattle.cx_run.specs.Run.{next_run, run_of}
use Rattle.cx_run.proofs.TapedEvents.{due_here, step_else}

nothing_more : {Rec : Type 0} (step : Step Rec) (R : Recording) (n : ℕ) → run_of step R (n + 0) ≡ run_of step R n
nothing_more step R n = ap (λ (m : ℕ). run_of step R m) (let e : n + 0 ≡ n = omega arith in e)

-- From a step on it is driven by what is due to the steps from there on.
pub taped_from : {Rec : Type 0} (step : Step Rec) (R : Recording) (n : ℕ) (dues : List Due) (k : ℕ) → R.base ≡ 0
    → ((m : ℕ) → n ≤ m → due_at R.events m ≡ due_at (events_from n dues) m) → k ≤ length dues
    → run_of step R (n + k) ≡ driven step (run_of step R n) (take k dues)
taped_from step R n dues zero base due most = nothing_more step R n
taped_from step R n [] (suc k) base due most = absurd (omega (arith, most))
taped_from step R n (first ∷ dues) (suc k) base due most =
    let here : due_at R.events (R.base + n) ≡ first =
    ap (λ (m : ℕ). due_at R.events m) (let e : R.base + n ≡ n = omega (arith, base) in e) ∙ due n (omega arith)
    ∙ due_here n first dues in
    let later = λ (m : ℕ) (above : suc n ≤ m). due m (omega (arith, above))
    ∙ step_else m n first dues (λ same. omega (arith, above, same)) in
    let place : n + suc k ≡ suc n + k = omega arith in
    ap (λ (m : ℕ). run_of step R m) place
    ∙ taped_from step R (suc n) dues k base later (omega (arith, most))
    ∙ ap (λ (d : Due). driven step (next_run step d (run_of step R n)) (take k dues)) here

pub taped_runs : {Rec : Type 0} (step : Step Rec) (version : ℕ) (split : Bool) (pages : ℕ) (start : MachineState)
    (dues : List Due) (n : ℕ) → n ≤ length dues
    → run_of step (taped version split pages start dues) n ≡ driven step (Some (at_first start)) (take n dues)
taped_runs step version split pages start dues n most =
    let R = taped version split pages start dues in
    let place : n ≡ 0 + n = omega arith in
    ap (λ (m : ℕ). run_of step R m) place ∙ taped_from step R 0 dues n refl (λ m least. refl) most
