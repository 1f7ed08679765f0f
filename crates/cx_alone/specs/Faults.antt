-- What the fault of a reader becomes.
use Rattle.cx_replay.specs.declared.fault.ReplayFault.{ReplayFault}
use Rattle.cx_replay.specs.declared.fault.ReplayFault.TheVariants.{Format, Broken, ReadFault, NoMemory}
use Rattle.cx_slicefmt.specs.declared.fault.SliceFault.{SliceFault}
use Rattle.cx_slicefmt.specs.declared.fault.SliceFault.TheVariants.{Format as bad_field, ReadFault as read_fault}

abbrev pub replay_fault_of : SliceFault → ReplayFault
replay_fault_of (bad_field o) = Format o
replay_fault_of read_fault = ReadFault

-- what comes where memory isn't refused and no step was tried
abbrev pub IsReading : ReplayFault → Type 0
IsReading (Format o) = Unit {0}
IsReading (Broken n) = ⊥
IsReading ReadFault = Unit {0}
IsReading NoMemory = ⊥
