-- The timer, the console, the interrupt controller and the power switch, word by word. All words of them are here; those
-- of the block device read 0 and take nothing.
use Rattle.std.specs.Prelude.{ℕ, ◌+◌, ◌/◌, ◌%◌, ◌-◌, ◌^◌, ◌<◌, ◌==◌, ◌||◌, Bool, not, nat_le, if◌then◌else◌}
use Rattle.std.specs.Prelude.{false, true, Option, None, Some, IfSome, is_some, unwrap_or}
use Rattle.std.specs.Int.RustNames.{bit_and}
use Rattle.cx_block.specs.declared.states.TheConstants.{DONE, REFUSED}
use Rattle.cx_csr.specs.declared.interrupts.TheConstants.{MEI, MSI, MTI, SEI}
use Rattle.cx_csr.specs.declared.lines.Lines.{Lines}
use Rattle.cx_csr.specs.Words.{from_halves}
use Rattle.cx_devices.specs.declared.devices.Devices.{Devices}
use Rattle.cx_walk.specs.declared.device.DeviceWord.{DeviceWord}
use Rattle.cx_walk.specs.declared.device.DeviceWord.TheVariants.{Power, SoftwareInterrupt, TimeCompareLow}
use Rattle.cx_walk.specs.declared.device.DeviceWord.TheVariants.{TimeCompareHigh, TimeLow, TimeHigh}
use Rattle.cx_walk.specs.declared.device.DeviceWord.TheVariants.{MachineInterruptMask, SupervisorInterruptMask}
use Rattle.cx_walk.specs.declared.device.DeviceWord.TheVariants.{InterruptPending, ConsoleData, ConsoleState}

-- the devices at reset: all is 0, but no time is reached by the clock
abbrev pub at_reset : Devices
at_reset = record {
  clock = 0;
  compare = 2 ^ 64 - 1;
  software = 0;
  machine_mask = 0;
  supervisor_mask = 0;
  slot = None;
  off = false;
}

-- Each number is as wide as its register.
pub record IsSound (d : Devices) : Type 0 where
  pub clock : d.clock < 2 ^ 64
  pub compare : d.compare < 2 ^ 64
  pub software : d.software < 2
  pub machine_mask : d.machine_mask < 4
  pub supervisor_mask : d.supervisor_mask < 4
  pub slot : IfSome d.slot (λ byte. byte < 256)

-- the halves of a number of 64 bits
abbrev pub low : ℕ → ℕ
low n = n % 2 ^ 32

abbrev pub high : ℕ → ℕ
high n = n / 2 ^ 32

-- The clock goes on, modulo 2^64.
abbrev pub after_ticks : ℕ → Devices → Devices
after_ticks ticks d = record d { clock = (d.clock + ticks) % 2 ^ 64 }

-- Which devices ask for an interrupt. Bit 0: a byte waits in the slot. Bit 1: the block device, whose state is given,
-- has done a command, or has refused it.
abbrev pub pending : Devices → ℕ → ℕ
pending d block_state = (if is_some d.slot then 1 else 0) + (if (block_state == DONE) || (block_state == REFUSED) then 2 else 0)

abbrev pub bit_where : Bool → ℕ → ℕ
bit_where test k = if test then 2 ^ k else 0

-- The lines that are up (Privileged 1.12, 3.1.9): the software interrupt where it was set; the timer's where the clock
-- has come to the time that is compared (3.2.1); the external ones where a device asks that the mask lets through.
abbrev pub mask_of : Devices → ℕ → ℕ
mask_of d block_state =
    bit_where (d.software == 1) MSI
    + bit_where (nat_le d.compare d.clock) MTI
    + bit_where (not (bit_and (pending d block_state) d.supervisor_mask == 0)) SEI
    + bit_where (not (bit_and (pending d block_state) d.machine_mask == 0)) MEI

abbrev pub lines_of : Devices → ℕ → Lines
lines_of d block_state = record { 0 = mask_of d block_state }

-- what a load of a word gives
abbrev pub word_load : DeviceWord → Devices → ℕ → ℕ
word_load SoftwareInterrupt d block_state = d.software
word_load TimeCompareLow d block_state = low d.compare
word_load TimeCompareHigh d block_state = high d.compare
word_load TimeLow d block_state = low d.clock
word_load TimeHigh d block_state = high d.clock
word_load MachineInterruptMask d block_state = d.machine_mask
word_load SupervisorInterruptMask d block_state = d.supervisor_mask
word_load InterruptPending d block_state = pending d block_state
word_load ConsoleData d block_state = unwrap_or d.slot 0
word_load ConsoleState d block_state = if is_some d.slot then 1 else 0
word_load _ d block_state = 0

-- A load of the console's byte takes it; no other load changes anything.
abbrev pub after_load : DeviceWord → Devices → Devices
after_load ConsoleData d = record d { slot = None }
after_load _ d = d

-- what a store of a value to a word leaves
abbrev pub after_store : DeviceWord → ℕ → Devices → Devices
after_store Power v d = record d { off = true }
after_store SoftwareInterrupt v d = record d { software = v % 2 }
after_store TimeCompareLow v d = record d { compare = from_halves v (high d.compare) }
after_store TimeCompareHigh v d = record d { compare = from_halves (low d.compare) v }
after_store MachineInterruptMask v d = record d { machine_mask = v % 4 }
after_store SupervisorInterruptMask v d = record d { supervisor_mask = v % 4 }
after_store _ v d = d

-- the same at a place where a word may stand
abbrev pub word_load_at : Option DeviceWord → Devices → ℕ → ℕ
word_load_at None d block_state = 0
word_load_at (Some word) d block_state = word_load word d block_state

abbrev pub after_load_at : Option DeviceWord → Devices → Devices
after_load_at None d = d
after_load_at (Some word) d = after_load word d

abbrev pub after_store_at : Option DeviceWord → ℕ → Devices → Devices
after_store_at None v d = d
after_store_at (Some word) v d = after_store word v d
