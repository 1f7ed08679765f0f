-- One turn of the live machine: the outside, then a step of the hart, which the devices answer, then the effect of what
-- it stored to a device.
use Rattle.std.specs.Prelude.{ℕ, Bool, if◌then◌else◌, List, Option, None, Some}
use Rattle.cx_io.specs.declared.outside.Outside.{Outside}
use Rattle.cx_block.specs.Block.{BlockDevice, after_store_at as block_after_store_at, is_own_at}
use Rattle.cx_block.specs.Block.{word_load_at as block_load_at}
use Rattle.cx_csr.specs.declared.lines.Lines.{Lines}
use Rattle.cx_devices.specs.Devices.{after_load_at, after_store_at, high, low, word_load_at}
use Rattle.cx_devices.specs.declared.devices.Devices.{Devices}
use Rattle.cx_hart.specs.HartStep.{hart_step}
use Rattle.cx_hart.specs.Step.{NeedsValue, Outcome, Stepped as Carried, ValueLeft, step}
use Rattle.cx_hart.specs.declared.answer.Asked.{Asked}
use Rattle.cx_hart.specs.declared.answer.Asked.TheVariants.{Device, TimeHigh, TimeLow}
use Rattle.cx_hart.specs.declared.record.StepRec.{StepRec}
use Rattle.cx_hart.specs.declared.record.Touch.{Touch}
use Rattle.cx_machine.specs.Due.{Due}
use Rattle.cx_machine.specs.Machine.{MachineState, pages_of}
use Rattle.cx_machine.specs.Step.{Stepped}
use Rattle.cx_machine.specs.Transfers.{Transfer}
use Rattle.cx_ram.specs.LittleEndian.{loaded}
use Rattle.cx_walk.specs.Devices.{device_at}
use Rattle.cx_live.specs.Live.{Live, lines_due, met, transfers_due}

-- ---- what the devices answer

-- the word of a device, or a half of the clock
abbrev pub value_of : Asked → Devices → BlockDevice → ℕ
value_of (Device place) d b =
    if is_own_at (device_at place) then block_load_at (device_at place) b else word_load_at (device_at place) d b.state
value_of TimeLow d b = low d.clock
value_of TimeHigh d b = high d.clock

-- what a step asks for, where it does
abbrev pub asked_in : Outcome → Option Asked
asked_in (NeedsValue what) = Some what
asked_in ValueLeft = None
asked_in (Carried after rec) = None

-- where nothing but these transfers and lines is due
abbrev pub first_asked : Bool → List Transfer → Option Lines → MachineState → Option Asked
first_asked split transfers lines m =
    asked_in (step split (record { transfers = transfers; lines = lines; value = None }) m)

abbrev pub given_to : Option Asked → Devices → BlockDevice → Option ℕ
given_to None d b = None
given_to (Some what) d b = Some (value_of what d b)

-- A load of the console's byte takes it.
abbrev pub after_asked : Option Asked → Devices → Devices
after_asked (Some (Device place)) d = after_load_at (device_at place) d
after_asked _ d = d

-- ---- what a store to a device does, once the step is done

-- the word that was written
abbrev pub word_of : Touch → ℕ
word_of t = loaded t.bytes 0 4

abbrev pub devices_after_write : Option Touch → Devices → Devices
devices_after_write None d = d
devices_after_write (Some t) d = after_store_at (device_at t.pa) (word_of t) d

abbrev pub block_after_write : Option Touch → ℕ → BlockDevice → BlockDevice
block_after_write None pages b = b
block_after_write (Some t) pages b = block_after_store_at (device_at t.pa) pages (word_of t) b

abbrev pub after_write : Option Touch → Live → Live
after_write write l = record l {
  devices = devices_after_write write l.devices;
  block = block_after_write write (pages_of l.machine.memory) l.block;
}

-- ---- the turn

-- what was due to the step, its record, and the machine after the turn
pub record Turned : Type 0 where
  pub due : Due
  pub rec : StepRec
  pub live : Live

abbrev pub asked_at : Bool → Outside → Live → Option Asked
asked_at split o l = first_asked split (transfers_due o.block l.block) (lines_due (met o l)) (met o l).machine

abbrev pub due_to : Bool → Outside → Live → Due
due_to split o l = record {
  transfers = transfers_due o.block l.block;
  lines = lines_due (met o l);
  value = given_to (asked_at split o l) (met o l).devices (met o l).block;
}

abbrev pub turned : Bool → Outside → Live → Option (Stepped StepRec) → Option Turned
turned split o l None = None
turned split o l (Some stepped) = Some (record {
  due = due_to split o l;
  rec = stepped.rec;
  live =
      after_write stepped.rec.write (record (met o l) {
        devices = after_asked (asked_at split o l) (met o l).devices;
        machine = stepped.machine;
      });
})

-- It is always there, since a step that asks for a value takes any.
unfoldable pub live_turn : Bool → Outside → Live → Option Turned
live_turn split o l = turned split o l (hart_step split (met o l).machine (due_to split o l))
