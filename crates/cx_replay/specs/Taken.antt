-- The record of a step that a machine took.
use Rattle.std.specs.Prelude.{◌≡◌, ℕ, Bool, Some}
use Rattle.cx_hart.specs.HartStep.{hart_step}
use Rattle.cx_hart.specs.declared.record.StepRec.{StepRec}
use Rattle.cx_machine.specs.Due.{Due, IsDue}
use Rattle.cx_machine.specs.Machine.{IsMachine, MachineState}

-- It is that of a step of the hart, from a machine that keeps its rules, and what was due to the step fits its RAM.
pub record IsTaken (rec : StepRec) : Type 0 where
  pub split : Bool
  pub pages : ℕ
  pub machine : MachineState
  pub due : Due
  pub next : MachineState
  pub keeps : IsMachine pages machine
  pub fits : IsDue pages due
  pub goes : hart_step split machine due ≡ Some (record { machine = next; rec = rec })
