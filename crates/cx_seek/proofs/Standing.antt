-- A run that goes on, step by step.
use Rattle.std.proofs.Common.{◌≡◌, ℕ, suc, ◌+◌, ◌-◌, ◌≤◌, Some, refl, ap}
use Rattle.std.proofs.Common.{◌∙◌, arith}
use Rattle.cx_hart.specs.HartStep.{hart_step}
use Rattle.cx_hart.specs.declared.record.StepRec.{StepRec}
use Rattle.cx_log.specs.Recording.{Recording}
use Rattle.cx_machine.specs.Machine.{MachineState}
use Rattle.cx_run.specs.Due.{due_at}
use Rattle.cx_run.specs.Run.{go_on, next_run, run_of}
use Rattle.cx_seek.specs.Checkpoints.{IsMachineAt}
use Rattle.cx_seek.specs.Seeking.{step_on, taken}

-- the run behind one step more
run_on : (R : Recording) (n : ℕ) → R.base ≤ n → run_of (hart_step R.split) R (n + 1 - R.base)
    ≡ next_run (hart_step R.split) (due_at R.events n) (run_of (hart_step R.split) R (n - R.base))
run_on R n above =
    let count : n + 1 - R.base ≡ suc (n - R.base) = omega arith in
    let at : R.base + (n - R.base) ≡ n = omega arith in
    ap (run_of (hart_step R.split) R) count
    ∙ ap (λ (k : ℕ). next_run (hart_step R.split) (due_at R.events k) (run_of (hart_step R.split) R (n - R.base))) at

-- the machine behind a step that is carried out is that of the run before the next one
pub goes_on : (R : Recording) (n : ℕ) (m after : MachineState) (rec : StepRec) → R.base ≤ n → IsMachineAt R n m
    → hart_step R.split m (due_at R.events n) ≡ Some (record { machine = after; rec = rec })
    → IsMachineAt R (n + 1) after
goes_on R n m after rec above there goes = record {
  run = record { machine = after; records = _ };
  there = run_on R n above ∙ ap (next_run (hart_step R.split) (due_at R.events n)) there.there
      ∙ ap (go_on there.run) (ap (λ (x : MachineState). hart_step R.split x (due_at R.events n)) there.is ∙ goes);
  is = refl;
}

-- and the step is the run's own
pub is_taken : (R : Recording) (n : ℕ) (m after : MachineState) (rec : StepRec) → IsMachineAt R n m
    → hart_step R.split m (due_at R.events n) ≡ Some (record { machine = after; rec = rec })
    → taken R n ≡ Some (record { machine = after; rec = rec })
unfolding taken
is_taken R n m after rec there goes =
    ap (step_on (hart_step R.split) (due_at R.events n)) there.there
    ∙ ap (λ (x : MachineState). hart_step R.split x (due_at R.events n)) there.is ∙ goes
