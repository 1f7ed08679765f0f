-- How far a run goes.
use Rattle.std.proofs.Common.{◌≡◌, ℕ, zero, suc, ◌+◌, ◌<◌, ◌≤◌, ◌↔◌, false, Option, None, Some, IsSome, is_some, refl}
use Rattle.std.proofs.Common.{inl, inr, le_antisymm, arith}
use Rattle.std.proofs.lemmas.Bool.{cases_lt, cond_both}
use Rattle.cx_log.specs.Recording.{Recording}
use Rattle.cx_run.specs.Due.{due_at}
use Rattle.cx_machine.specs.Step.{Step, Stepped}
use Rattle.cx_run.specs.Run.{Run, run_of, built_steps}
use Rattle.cx_run.proofs.Runs.{run_of-fewer, run_of-next}

is_none : {X : Type 0} (o : Option X) → is_some o ≡ false → o ≡ None
is_none None is = refl
is_none (Some x) is = absurd (cc)

none_is_not_some : {X : Type 0} (o : Option X) → o ≡ None → IsSome o → ⊥
none_is_not_some None is some = absurd (cc)
none_is_not_some (Some x) is some = absurd (cc)

pub built_steps-le : {Rec : Type 0} (step : Step Rec) (R : Recording) (n : ℕ) → built_steps step R n ≤ n
built_steps-le step R zero = omega arith
built_steps-le step R (suc n) =
    let before : built_steps step R n ≤ n = built_steps-le step R n in
    cond_both (is_some (run_of step R (suc n))) (suc n) (built_steps step R n) (λ m. m ≤ suc n) (λ goes. omega arith)
    (λ stops. omega arith)

-- The run of so many steps is there,
pub run_of-built_steps : {Rec : Type 0} (step : Step Rec) (R : Recording) (n : ℕ)
    → IsSome (run_of step R (built_steps step R n))
run_of-built_steps step R zero = refl
run_of-built_steps step R (suc n) =
    cond_both (is_some (run_of step R (suc n))) (suc n) (built_steps step R n) (λ m. IsSome (run_of step R m))
    (λ goes. goes) (λ stops. run_of-built_steps step R n)

-- and where they are fewer than n, that of one more isn't.
pub run_of-past_built_steps : {Rec : Type 0} (step : Step Rec) (R : Recording) (n : ℕ) → built_steps step R n < n
    → run_of step R (suc (built_steps step R n)) ≡ None
run_of-past_built_steps step R zero fewer = absurd (omega arith)
run_of-past_built_steps step R (suc n) fewer =
    cond_both (is_some (run_of step R (suc n))) (suc n) (built_steps step R n) (λ m. m < suc n
    → run_of step R (suc m) ≡ None) (λ goes less. absurd (omega arith))
    (λ stops less.
    elim (cases_lt (built_steps step R n) n) [
      | inl below ↦ run_of-past_built_steps step R n below
      | inr most ↦
          let same : built_steps step R n ≡ n = omega (arith, built_steps-le step R n) in
          rw same (is_none (run_of step R (suc n)) stops)
    ])
    fewer

-- The runs of up to so many steps, and only they, are there.
pub run_of-within : {Rec : Type 0} (step : Step Rec) (R : Recording) (k n : ℕ) → k ≤ built_steps step R n
    → IsSome (run_of step R k)
run_of-within step R k n within = run_of-fewer step R k (built_steps step R n) within (run_of-built_steps step R n)

pub within_built_steps : {Rec : Type 0} (step : Step Rec) (R : Recording) (k n : ℕ) → k ≤ n → IsSome (run_of step R k)
    → k ≤ built_steps step R n
within_built_steps step R k n least is =
    elim (cases_lt (built_steps step R n) k) [
      | inl less ↦
          let next : IsSome (run_of step R (suc (built_steps step R n))) =
          run_of-fewer step R (suc (built_steps step R n)) k (omega arith) is in
          let stops : run_of step R (suc (built_steps step R n)) ≡ None =
          run_of-past_built_steps step R n (omega arith) in
          absurd (none_is_not_some (run_of step R (suc (built_steps step R n))) stops next)
      | inr most ↦ most
    ]

pub built_steps-whole : {Rec : Type 0} (step : Step Rec) (R : Recording) (n : ℕ) → (built_steps step R n ≡ n)
    ↔ IsSome (run_of step R n)
built_steps-whole step R n = (
  λ whole. run_of-within step R n n (omega arith),
  λ is. le_antisymm (built_steps-le step R n)
      (within_built_steps step R n n (omega arith) is),
)

-- The first step that isn't carried out.
stops_from : {Rec : Type 0} (step : Step Rec) (R : Recording) (n : ℕ) (run : Run Rec) (outcome : Option (Stepped Rec))
    → run_of step R n ≡ Some run → run_of step R (suc n) ≡ None
    → step run.machine (due_at R.events (R.base + n)) ≡ outcome → outcome ≡ None
stops_from step R n run None is stops goes = refl
stops_from step R n run (Some stepped) is stops goes = absurd (let next = run_of-next step R n run stepped is goes in
    cc)

pub first_step_that_stops : {Rec : Type 0} (step : Step Rec) (R : Recording) (n : ℕ) (run : Run Rec)
    → built_steps step R n < n → run_of step R (built_steps step R n) ≡ Some run
    → step run.machine (due_at R.events (R.base + built_steps step R n)) ≡ None
first_step_that_stops step R n run fewer is =
    stops_from step R (built_steps step R n) run (step run.machine (due_at R.events (R.base + built_steps step R n))) is
    (run_of-past_built_steps step R n fewer) refl
