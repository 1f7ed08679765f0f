-- A step that the devices answer is taken.
use Rattle.std.proofs.Common.{◌≡◌, ℕ, Bool, [], Option, None, Some, refl}
use Rattle.cx_block.specs.Block.{BlockDevice}
use Rattle.cx_csr.specs.declared.lines.Lines.{Lines}
use Rattle.cx_devices.specs.declared.devices.Devices.{Devices}
use Rattle.cx_hart.specs.Step.{NeedsValue, Outcome, Stepped as Carried, ValueLeft, step}
use Rattle.cx_hart.specs.Taking.{Took}
use Rattle.cx_hart.specs.declared.answer.Asked.{Asked}
use Rattle.cx_hart.specs.declared.record.StepRec.{StepRec}
use Rattle.cx_hart.proofs.StepTakes.{leaves_none, takes_any}
use Rattle.cx_machine.specs.Due.{Due}
use Rattle.cx_machine.specs.Machine.{MachineState}
use Rattle.cx_live.specs.Stepping.{StepIsTaken}
use Rattle.cx_live.specs.Turn.{after_asked, value_of}

abbrev pub due_with : Option Lines → Option ℕ → Due
due_with lines value = record { transfers = []; lines = lines; value = value }

-- it asked for nothing
pub taken_alone : (split : Bool) (lines : Option Lines) (m after : MachineState) (d : Devices) (b : BlockDevice)
    (rec : StepRec) → step split (due_with lines None) m ≡ Carried after rec
    → StepIsTaken split lines m d b after rec d None
taken_alone split lines m after d b rec carried =
    record { taken = carried; given = rw carried refl; answered = rw carried refl }

-- it asked, and was answered
pub taken_answered : (split : Bool) (lines : Option Lines) (m after : MachineState) (d now : Devices) (b : BlockDevice)
    (rec : StepRec) (what : Asked) (v : ℕ) → step split (due_with lines None) m ≡ NeedsValue what
    → v ≡ value_of what d b → now ≡ after_asked (Some what) d
    → step split (due_with lines (Some v)) m ≡ Carried after rec
    → StepIsTaken split lines m d b after rec now (Some v)
taken_answered split lines m after d now b rec what v asks value answered carried =
    record { taken = carried; given = rw (asks, value) refl; answered = rw asks answered }

-- a step that asks isn't left asking, nor with a value
no_other : (v : ℕ) (outcome : Outcome) (what : Asked) → Took v outcome → outcome ≡ NeedsValue what → ⊥
no_other v (NeedsValue other) what took is = took
no_other v ValueLeft what took is = took
no_other v (Carried after rec) what took is = cc

never_left : (v : ℕ) (outcome : Outcome) → Took v outcome → outcome ≡ ValueLeft → ⊥
never_left v (NeedsValue other) took is = took
never_left v ValueLeft took is = took
never_left v (Carried after rec) took is = cc

pub asks_once : (split : Bool) (lines : Option Lines) (m : MachineState) (what other : Asked) (v : ℕ)
    → step split (due_with lines None) m ≡ NeedsValue what → step split (due_with lines (Some v)) m ≡ NeedsValue other
    → ⊥
asks_once split lines m what other v asks again =
    no_other v _ other (takes_any split (due_with lines None) m what v asks) again

pub takes_value : (split : Bool) (lines : Option Lines) (m : MachineState) (what : Asked) (v : ℕ)
    → step split (due_with lines None) m ≡ NeedsValue what → step split (due_with lines (Some v)) m ≡ ValueLeft → ⊥
takes_value split lines m what v asks left =
    never_left v _ (takes_any split (due_with lines None) m what v asks) left

pub leaves_nothing : (split : Bool) (lines : Option Lines) (m : MachineState)
    → step split (due_with lines None) m ≡ ValueLeft → ⊥
leaves_nothing split lines m left = leaves_none split (due_with lines None) m left
