-- The devices keep their rules, and what they answer are words.
use Rattle.std.proofs.Common.{◌≡◌, ℕ, ◌+◌, ◌*◌, ◌/◌, ◌%◌, ◌^◌, ◌<◌, ◌≤◌, Bool, true, false, if◌then◌else◌, not, is_some}
use Rattle.std.proofs.Common.{Option, None, Some, IfSome, unwrap_or, nat_le, ◌==◌, ◌||◌, refl, arith, List}
use Rattle.std.specs.Int.RustNames.{bit_and}
use Rattle.cx_block.specs.declared.states.TheConstants.{DONE, REFUSED}
use Rattle.cx_csr.specs.Rules.{IsWithin}
use Rattle.cx_csr.specs.declared.interrupts.TheConstants.{LINE_INTERRUPTS, MEI, MSI, MTI, SEI}
use Rattle.cx_devices.specs.Devices.{IsSound, after_load, after_load_at, after_store, after_store_at, after_ticks}
use Rattle.cx_devices.specs.Devices.{bit_where, high, lines_of, low, mask_of, pending, word_load, word_load_at}
use Rattle.cx_devices.specs.declared.devices.Devices.{Devices}
use Rattle.cx_hart.specs.declared.answer.Asked.{Asked}
use Rattle.cx_hart.specs.declared.answer.Asked.TheVariants as asked
use Rattle.cx_hart.specs.declared.record.Touch.{Touch}
use Rattle.cx_machine.specs.Due.{AreLines}
use Rattle.cx_map.specs.Bytes.{AreBytes}
use Rattle.cx_ram.specs.LittleEndian.{loaded}
use Rattle.cx_ram.proofs.LoadsAndWrites.{loaded-fits}
use Rattle.cx_walk.specs.Devices.{device_at}
use Rattle.cx_walk.specs.declared.device.DeviceWord.{DeviceWord}
use Rattle.cx_walk.specs.declared.device.DeviceWord.TheVariants as word
use Rattle.cx_live.specs.Turn.{after_asked, devices_after_write, word_of}

-- ---- the lines that are up are lines of the hart

lines_within_by : (a b c e : Bool)
    → IsWithin LINE_INTERRUPTS (bit_where a MSI + bit_where b MTI + bit_where c SEI + bit_where e MEI)
lines_within_by true true true true = refl
lines_within_by true true true false = refl
lines_within_by true true false true = refl
lines_within_by true true false false = refl
lines_within_by true false true true = refl
lines_within_by true false true false = refl
lines_within_by true false false true = refl
lines_within_by true false false false = refl
lines_within_by false true true true = refl
lines_within_by false true true false = refl
lines_within_by false true false true = refl
lines_within_by false true false false = refl
lines_within_by false false true true = refl
lines_within_by false false true false = refl
lines_within_by false false false true = refl
lines_within_by false false false false = refl

pub lines_within : (d : Devices) (block_state : ℕ) → AreLines (lines_of d block_state)
lines_within d block_state =
    lines_within_by (d.software == 1) (nat_le d.compare d.clock)
    (not (bit_and (pending d block_state) d.supervisor_mask == 0))
    (not (bit_and (pending d block_state) d.machine_mask == 0))

-- ---- loads

pending_small : (a b : Bool) → (if a then 1 else 0) + (if b then 2 else 0) < 2 ^ 32
pending_small true true = omega arith
pending_small true false = omega arith
pending_small false true = omega arith
pending_small false false = omega arith

slot_small : (slot : Option ℕ) → IfSome slot (λ byte. byte < 256) → unwrap_or slot 0 < 2 ^ 32
slot_small None small = omega arith
slot_small (Some byte) small = omega (arith, small)

flag_small : (t : Bool) → (if t then 1 else 0) < 2 ^ 32
flag_small true = omega arith
flag_small false = omega arith

load_small : (w : DeviceWord) (d : Devices) (block_state : ℕ) → IsSound d → word_load w d block_state < 2 ^ 32
load_small word.SoftwareInterrupt d s sound = omega (arith, sound.software)
load_small word.TimeCompareLow d s sound = omega arith
load_small word.TimeCompareHigh d s sound = omega (arith, sound.compare)
load_small word.TimeLow d s sound = omega arith
load_small word.TimeHigh d s sound = omega (arith, sound.clock)
load_small word.MachineInterruptMask d s sound = omega (arith, sound.machine_mask)
load_small word.SupervisorInterruptMask d s sound = omega (arith, sound.supervisor_mask)
load_small word.InterruptPending d s sound = pending_small (is_some d.slot) ((s == DONE) || (s == REFUSED))
load_small word.ConsoleData d s sound = slot_small d.slot sound.slot
load_small word.ConsoleState d s sound = flag_small (is_some d.slot)
load_small w d s sound = omega arith

pub load_small_at : (o : Option DeviceWord) (d : Devices) (block_state : ℕ) → IsSound d
    → word_load_at o d block_state < 2 ^ 32
load_small_at None d s sound = omega arith
load_small_at (Some w) d s sound = load_small w d s sound

load_keeps : (w : DeviceWord) (d : Devices) → IsSound d → IsSound (after_load w d)
load_keeps word.ConsoleData d sound = record {
  clock = sound.clock;
  compare = sound.compare;
  software = sound.software;
  machine_mask = sound.machine_mask;
  supervisor_mask = sound.supervisor_mask;
  slot = tt;
}
load_keeps w d sound = sound

load_keeps_at : (o : Option DeviceWord) (d : Devices) → IsSound d → IsSound (after_load_at o d)
load_keeps_at None d sound = sound
load_keeps_at (Some w) d sound = load_keeps w d sound

pub asked_keeps : (o : Option Asked) (d : Devices) → IsSound d → IsSound (after_asked o d)
asked_keeps None d sound = sound
asked_keeps (Some (asked.Device place)) d sound = load_keeps_at (device_at place) d sound
asked_keeps (Some asked.TimeLow) d sound = sound
asked_keeps (Some asked.TimeHigh) d sound = sound

-- ---- the clock

pub ticks_keep : (ticks : ℕ) (d : Devices) → IsSound d → IsSound (after_ticks ticks d)
ticks_keep ticks d sound = record {
  clock = omega arith;
  compare = sound.compare;
  software = sound.software;
  machine_mask = sound.machine_mask;
  supervisor_mask = sound.supervisor_mask;
  slot = sound.slot;
}

-- ---- a byte that comes

pub slot_keeps : (byte : ℕ) (d : Devices) → byte < 256 → IsSound d → IsSound (record d { slot = Some byte })
slot_keeps byte d small sound = record {
  clock = sound.clock;
  compare = sound.compare;
  software = sound.software;
  machine_mask = sound.machine_mask;
  supervisor_mask = sound.supervisor_mask;
  slot = small;
}

-- ---- stores

store_keeps : (w : DeviceWord) (v : ℕ) (d : Devices) → v < 2 ^ 32 → IsSound d → IsSound (after_store w v d)
store_keeps word.Power v d small sound = record {
  clock = sound.clock;
  compare = sound.compare;
  software = sound.software;
  machine_mask = sound.machine_mask;
  supervisor_mask = sound.supervisor_mask;
  slot = sound.slot;
}
store_keeps word.SoftwareInterrupt v d small sound = record {
  clock = sound.clock;
  compare = sound.compare;
  software = omega arith;
  machine_mask = sound.machine_mask;
  supervisor_mask = sound.supervisor_mask;
  slot = sound.slot;
}
store_keeps word.TimeCompareLow v d small sound = record {
  clock = sound.clock;
  compare = omega (arith, small, sound.compare);
  software = sound.software;
  machine_mask = sound.machine_mask;
  supervisor_mask = sound.supervisor_mask;
  slot = sound.slot;
}
store_keeps word.TimeCompareHigh v d small sound = record {
  clock = sound.clock;
  compare = omega (arith, small, sound.compare);
  software = sound.software;
  machine_mask = sound.machine_mask;
  supervisor_mask = sound.supervisor_mask;
  slot = sound.slot;
}
store_keeps word.MachineInterruptMask v d small sound = record {
  clock = sound.clock;
  compare = sound.compare;
  software = sound.software;
  machine_mask = omega arith;
  supervisor_mask = sound.supervisor_mask;
  slot = sound.slot;
}
store_keeps word.SupervisorInterruptMask v d small sound = record {
  clock = sound.clock;
  compare = sound.compare;
  software = sound.software;
  machine_mask = sound.machine_mask;
  supervisor_mask = omega arith;
  slot = sound.slot;
}
store_keeps w v d small sound = sound

store_keeps_at : (o : Option DeviceWord) (v : ℕ) (d : Devices) → v < 2 ^ 32 → IsSound d → IsSound (after_store_at o v d)
store_keeps_at None v d small sound = sound
store_keeps_at (Some w) v d small sound = store_keeps w v d small sound

-- what is written are bytes, so a word of them is one
pub word_small : (t : Touch) → AreBytes t.bytes → word_of t < 2 ^ 32
word_small t bytes = loaded-fits t.bytes 0 4 (λ k below. bytes (0 + k))

pub write_keeps : (write : Option Touch) (d : Devices) → IfSome write (λ t. AreBytes t.bytes) → IsSound d
    → IsSound (devices_after_write write d)
write_keeps None d bytes sound = sound
write_keeps (Some t) d bytes sound = store_keeps_at (device_at t.pa) (word_of t) d (word_small t bytes) sound
