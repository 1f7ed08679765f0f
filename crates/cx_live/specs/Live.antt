-- The live machine, and what the outside does to it before a step.
use Rattle.std.specs.Prelude.{ℕ, ◌==◌, ◌&&◌, Bool, not, if◌then◌else◌, List, [], ◌∷◌, take, drop}
use Rattle.std.specs.Prelude.{Option, None, Some, is_some}
use Rattle.cx_io.specs.declared.outside.Outside.{Outside}
use Rattle.cx_block.specs.Block.{BlockDevice, done, is_busy, sectors_of, size_of, with_sectors}
use Rattle.cx_block.specs.declared.states.TheConstants.{TO_RAM}
use Rattle.cx_csr.specs.declared.lines.Lines.{Lines}
use Rattle.cx_devices.specs.Devices.{after_ticks, lines_of}
use Rattle.cx_devices.specs.declared.devices.Devices.{Devices}
use Rattle.cx_machine.specs.Machine.{MachineState}
use Rattle.cx_machine.specs.Transfers.{Transfer}
use Rattle.cx_map.specs.Map.{ram_index}

-- the hart with its RAM, the devices, the block device, and the bytes that haven't come to the console yet
pub record Live : Type 0 where
  pub machine : MachineState
  pub devices : Devices
  pub block : BlockDevice
  pub console : List ℕ

-- ---- the clock goes on, and a byte comes to the console

abbrev pub after_pass : ℕ → Live → Live
after_pass ticks l = record l { devices = after_ticks ticks l.devices }

-- The next byte for the console goes into the slot.
abbrev pub first_arrives : List ℕ → Live → Live
first_arrives [] l = l
first_arrives (byte ∷ rest) l = record l { devices = record l.devices { slot = Some byte }; console = rest }

-- It may come where the outside lets it, and the slot is empty.
abbrev pub after_console : Bool → Live → Live
after_console console l = if console && not (is_some l.devices.slot) then first_arrives l.console l else l

abbrev pub before_block : Outside → Live → Live
before_block o l = after_console o.console (after_pass o.ticks l)

-- ---- a command of the block device is completed, where the outside lets it be

abbrev pub completes : Bool → BlockDevice → Bool
completes block b = block && is_busy b

-- the bytes of RAM that the command is about
abbrev pub ram_bytes : List ℕ → BlockDevice → List ℕ
ram_bytes memory b = take (size_of b) (drop (ram_index b.address) memory)

-- the sectors of a command that goes to RAM
abbrev pub transfer_of : BlockDevice → Transfer
transfer_of b = record { place = b.address; bytes = sectors_of b }

-- what a command moves to RAM
abbrev pub moves_of : BlockDevice → List Transfer
moves_of b = if b.command == TO_RAM then transfer_of b ∷ [] else []

-- It goes there before the step.
abbrev pub transfers_due : Bool → BlockDevice → List Transfer
transfers_due block b = if completes block b then moves_of b else []

-- Of a command that comes from RAM, the sectors take RAM as it stands.
abbrev pub moved : List ℕ → BlockDevice → BlockDevice
moved memory b = if b.command == TO_RAM then b else with_sectors (ram_bytes memory b) b

abbrev pub completed : List ℕ → BlockDevice → BlockDevice
completed memory b = done (moved memory b)

abbrev pub after_completion : Bool → List ℕ → BlockDevice → BlockDevice
after_completion block memory b = if completes block b then completed memory b else b

abbrev pub after_block : Bool → Live → Live
after_block block l = record l { block = after_completion block l.machine.memory l.block }

-- ---- what the step meets

abbrev pub met : Outside → Live → Live
met o l = after_block o.block (before_block o l)

abbrev pub lines_up : Live → Lines
lines_up l = lines_of l.devices l.block.state

-- Lines are due where they differ from the hart's.
abbrev pub changed_lines : Lines → Lines → Option Lines
changed_lines standing up = if up.0 == standing.0 then None else Some up

abbrev pub lines_due : Live → Option Lines
lines_due l = changed_lines l.machine.state.lines (lines_up l)
