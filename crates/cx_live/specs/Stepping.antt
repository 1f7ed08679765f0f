-- The parts of a turn, and what each says.
use Rattle.std.specs.Prelude.{◌≡◌, ℕ, Bool, [], Option}
use Rattle.cx_block.specs.Block.{BlockDevice}
use Rattle.cx_csr.specs.declared.lines.Lines.{Lines}
use Rattle.cx_devices.specs.declared.devices.Devices.{Devices}
use Rattle.cx_hart.specs.Step.{NeedsValue, Outcome, Stepped as Carried, ValueLeft, step}
use Rattle.cx_hart.specs.declared.answer.Went.{Went}
use Rattle.cx_hart.specs.declared.answer.Went.TheVariants as went
use Rattle.cx_hart.specs.declared.record.StepRec.{StepRec}
use Rattle.cx_machine.specs.Machine.{MachineState}
use Rattle.cx_live.specs.Turn.{after_asked, first_asked, given_to}

-- what a try to take a step came to
abbrev pub CameTo : Went → StepRec → MachineState → MachineState → Outcome → Type 0
CameTo went.Stepped rec old new outcome = outcome ≡ Carried new rec
CameTo (went.NeedsValue what) rec old new outcome = (new ≡ old) × (outcome ≡ NeedsValue what)
CameTo went.ValueLeft rec old new outcome = (new ≡ old) × (outcome ≡ ValueLeft)

-- The step was taken, to which these lines were due and what it asked the devices for.
pub record StepIsTaken (split : Bool) (lines : Option Lines) (m : MachineState) (d : Devices) (b : BlockDevice)
    (after : MachineState) (rec : StepRec) (now : Devices) (value : Option ℕ) : Type 0 where
  pub taken : step split (record { transfers = []; lines = lines; value = value }) m ≡ Carried after rec
  pub given : value ≡ given_to (first_asked split [] lines m) d b
  pub answered : now ≡ after_asked (first_asked split [] lines m) d
