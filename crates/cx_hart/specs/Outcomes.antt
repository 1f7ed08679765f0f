-- How a step goes that ends somewhere in its turn.
use Rattle.std.specs.Prelude.{◌≡◌, ℕ, ◌+◌, Bool, Option, None, List}
use Rattle.cx_csr.specs.declared.state.State.{State}
use Rattle.cx_decode.specs.declared.ins.Ins.{Ins}
use Rattle.cx_exec.specs.Arithmetic.{wrapped}
use Rattle.cx_exec.specs.Values.{register}
use Rattle.cx_machine.specs.Machine.{MachineState}
use Rattle.cx_hart.specs.After.{after_retired}
use Rattle.cx_hart.specs.Effects.{retired_with}
use Rattle.cx_hart.specs.Looks.{told}
use Rattle.cx_hart.specs.Phases.{Phase}
use Rattle.cx_hart.specs.Step.{NeedsValue, Outcome, Stepped, ValueLeft, ended_in, machine_in, unless_left}
use Rattle.cx_hart.specs.Surroundings.{Surroundings}
use Rattle.cx_hart.specs.declared.answer.Went.{Went}
use Rattle.cx_hart.specs.declared.answer.Went.TheVariants as went
use Rattle.cx_hart.specs.declared.findings.Retired.{Retired}
use Rattle.cx_hart.specs.declared.record.Ended.TheVariants as ended
use Rattle.cx_hart.specs.declared.record.StepRec.{StepRec}

abbrev pub here_of : Bool → Option ℕ → List ℕ → State → Surroundings
here_of split given memory state = record { split = split; given = given; memory = memory; state = state }

abbrev pub machine : State → List ℕ → MachineState
machine state memory = record { state = state; memory = memory }

-- It tells of no end yet, and of nothing that was written, taken or given.
pub record IsUnended (rec : StepRec) : Type 0 where
  pub retired : rec.ended ≡ ended.Retired
  pub write : rec.write ≡ None
  pub write_more : rec.write_more ≡ None
  pub value : rec.value ≡ None
  pub result : rec.result ≡ None

-- what the step comes to whose turn goes on with this phase, as its record tells what was seen before
abbrev pub outcome_from : Surroundings → StepRec → Phase Retired → Outcome
outcome_from here rec p = unless_left here.given (ended_in (machine_in here) (told p.looks rec) p.end)

-- The step goes as an outcome says, from one machine to another, and this is known of its record.
abbrev pub Goes : (StepRec → Type 0) → Went → MachineState → MachineState → Outcome → Type 0
Goes Known went.Stepped old new outcome = (rec : StepRec) × ((outcome ≡ Stepped new rec) × Known rec)
Goes Known (went.NeedsValue what) old new outcome = (new ≡ old) × (outcome ≡ NeedsValue what)
Goes Known went.ValueLeft old new outcome = (new ≡ old) × (outcome ≡ ValueLeft)

-- The step goes as the outcome of this phase says, whatever record was known before.
abbrev pub EndsStep : (StepRec → Type 0) → (StepRec → Type 0) → Surroundings → Phase Retired → Went → MachineState
    → Type 0
EndsStep Before After here p went new = (rec : StepRec) → IsUnended rec → Before rec
    → Goes After went (machine_in here) new (outcome_from here rec p)

-- the same where no memory is read or written, and no value is due
abbrev pub EndsStepThere : (StepRec → Type 0) → (StepRec → Type 0) → Option ℕ → State → Phase Retired → Went → State
    → Type 0
EndsStepThere Before After given old p went new = (split : Bool) (memory : List ℕ)
    → EndsStep Before After (here_of split given memory old) p went (machine new memory)

-- the step wasn't carried out
abbrev pub HasStayed : Went → Type 0
HasStayed went.Stepped = ⊥
HasStayed (went.NeedsValue what) = Unit {0}
HasStayed went.ValueLeft = Unit {0}

-- how a step goes by its outcome
abbrev pub went_of : Outcome → Went
went_of (NeedsValue what) = went.NeedsValue what
went_of ValueLeft = went.ValueLeft
went_of (Stepped after rec) = went.Stepped

-- the address of a plain load or store (Unprivileged ISA, 2.6)
abbrev pub plain_address : State → Ins → ℕ
plain_address s i = wrapped (register s.x i.rs1 + i.imm)

-- the state behind an instruction that changes pc and a register alone
abbrev pub passed_to : ℕ → ℕ → ℕ → State → State
passed_to pc rd value s = after_retired (retired_with s (record { rd = rd; value = value; pc = pc; write = None })) s
