-- Each word of the devices is found at its place.
use Rattle.std.proofs.Common.{◌≡◌, Some, refl}
use Rattle.cx_walk.specs.declared.device.DeviceWord.{DeviceWord}
use Rattle.cx_walk.specs.declared.device.DeviceWord.TheVariants.{Power, SoftwareInterrupt, TimeCompareLow}
use Rattle.cx_walk.specs.declared.device.DeviceWord.TheVariants.{TimeCompareHigh, TimeLow, TimeHigh}
use Rattle.cx_walk.specs.declared.device.DeviceWord.TheVariants.{MachineInterruptMask, SupervisorInterruptMask}
use Rattle.cx_walk.specs.declared.device.DeviceWord.TheVariants.{InterruptPending, ConsoleData, ConsoleState}
use Rattle.cx_walk.specs.declared.device.DeviceWord.TheVariants.{BlockSector, BlockAddress, BlockCount, BlockCommand}
use Rattle.cx_walk.specs.declared.device.DeviceWord.TheVariants.{BlockState}
use Rattle.cx_walk.specs.Devices.{device_at, device_place}

pub found_at_place : (word : DeviceWord) → device_at (device_place word) ≡ Some word
unfolding device_at
found_at_place Power = refl
found_at_place SoftwareInterrupt = refl
found_at_place TimeCompareLow = refl
found_at_place TimeCompareHigh = refl
found_at_place TimeLow = refl
found_at_place TimeHigh = refl
found_at_place MachineInterruptMask = refl
found_at_place SupervisorInterruptMask = refl
found_at_place InterruptPending = refl
found_at_place ConsoleData = refl
found_at_place ConsoleState = refl
found_at_place BlockSector = refl
found_at_place BlockAddress = refl
found_at_place BlockCount = refl
found_at_place BlockCommand = refl
found_at_place BlockState = refl
