-- The words of the devices, each at its place. There are no others.
use Rattle.std.specs.Prelude.{ℕ, ◌==◌, List, [], ◌∷◌, Option}
use Rattle.std.specs.List.{find}
use Rattle.cx_walk.specs.declared.device.DeviceWord.{DeviceWord}
use Rattle.cx_walk.specs.declared.device.DeviceWord.TheVariants.{Power, SoftwareInterrupt, TimeCompareLow}
use Rattle.cx_walk.specs.declared.device.DeviceWord.TheVariants.{TimeCompareHigh, TimeLow, TimeHigh}
use Rattle.cx_walk.specs.declared.device.DeviceWord.TheVariants.{MachineInterruptMask, SupervisorInterruptMask}
use Rattle.cx_walk.specs.declared.device.DeviceWord.TheVariants.{InterruptPending, ConsoleData, ConsoleState}
use Rattle.cx_walk.specs.declared.device.DeviceWord.TheVariants.{BlockSector, BlockAddress, BlockCount, BlockCommand}
use Rattle.cx_walk.specs.declared.device.DeviceWord.TheVariants.{BlockState}

abbrev pub device_words : List DeviceWord
device_words =
    Power ∷ SoftwareInterrupt ∷ TimeCompareLow ∷ TimeCompareHigh ∷ TimeLow ∷ TimeHigh
    ∷ MachineInterruptMask ∷ SupervisorInterruptMask ∷ InterruptPending ∷ ConsoleData ∷ ConsoleState
    ∷ BlockSector ∷ BlockAddress ∷ BlockCount ∷ BlockCommand ∷ BlockState ∷ []

abbrev pub device_place : DeviceWord → ℕ
device_place Power = 0x00100000
device_place SoftwareInterrupt = 0x02000000
device_place TimeCompareLow = 0x02004000
device_place TimeCompareHigh = 0x02004004
device_place TimeLow = 0x0200bff8
device_place TimeHigh = 0x0200bffc
device_place MachineInterruptMask = 0x0c000000
device_place SupervisorInterruptMask = 0x0c000004
device_place InterruptPending = 0x0c000008
device_place ConsoleData = 0x10000000
device_place ConsoleState = 0x10000004
device_place BlockSector = 0x10001000
device_place BlockAddress = 0x10001004
device_place BlockCount = 0x10001008
device_place BlockCommand = 0x1000100c
device_place BlockState = 0x10001010

-- the word of the devices at a place
unfoldable pub device_at : ℕ → Option DeviceWord
device_at place = find (λ word. device_place word == place) device_words
