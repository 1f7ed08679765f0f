-- The run of a recording, over any step function.
use Rattle.std.specs.Prelude.{ℕ, zero, suc, ◌+◌, ◌-◌, List, [], ◌∷◌, ◌++◌, Option, None, Some, IsSome, is_some}
use Rattle.std.specs.Prelude.{if◌then◌else◌}
use Rattle.cx_log.specs.Recording.{Recording}
use Rattle.cx_log.specs.Order.{KeepsRules}
use Rattle.cx_machine.specs.Due.{Due}
use Rattle.cx_machine.specs.Machine.{MachineState}
use Rattle.cx_machine.specs.Step.{Step, Stepped}
use Rattle.cx_run.specs.Due.{due_at}

-- where a run stands: the machine before the next step, and the records of the steps so far
pub record Run (Rec : Type 0) : Type 0 where
  pub machine : MachineState
  pub records : List Rec

abbrev pub go_on : {Rec : Type 0} → Run Rec → Option (Stepped Rec) → Option (Run Rec)
go_on run None = None
go_on run (Some stepped) = Some (record { machine = stepped.machine; records = run.records ++ stepped.rec ∷ [] })

abbrev pub next_run : {Rec : Type 0} → Step Rec → Due → Option (Run Rec) → Option (Run Rec)
next_run step due None = None
next_run step due (Some run) = go_on run (step run.machine due)

-- The run of so many steps from base on; none where one of them can't be carried out.
abbrev pub run_of : {Rec : Type 0} → Step Rec → Recording → ℕ → Option (Run Rec)
run_of step R zero = Some (record { machine = record { state = R.start; memory = R.memory }; records = [] })
run_of step R (suc n) = next_run step (due_at R.events (R.base + n)) (run_of step R n)

-- How many of the first n steps are carried out before the first that can't be.
abbrev pub built_steps : {Rec : Type 0} → Step Rec → Recording → ℕ → ℕ
built_steps step R zero = zero
built_steps step R (suc n) = if is_some (run_of step R (suc n)) then suc n else built_steps step R n

-- A recording that is accepted: it keeps the rules of the format, and each of its steps is carried out.
pub record Accepts {Rec : Type 0} (step : Step Rec) (R : Recording) : Type 0 where
  pub rules : KeepsRules R
  pub unbroken : IsSome (run_of step R (R.end - R.base))
