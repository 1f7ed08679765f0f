-- What the fault of a reader becomes.
use Rattle.cx_log.specs.declared.fault.LogFault.{LogFault}
use Rattle.cx_log.specs.declared.fault.LogFault.TheVariants.{Format as bad_field, ReadFault as read_fault}
use Rattle.cx_log.specs.declared.fault.LogFault.TheVariants.{NoMemory as no_memory}
use Rattle.cx_replay.specs.declared.fault.ReplayFault.{ReplayFault}
use Rattle.cx_replay.specs.declared.fault.ReplayFault.TheVariants.{Format, ReadFault, NoMemory}

abbrev pub replay_fault_of : LogFault → ReplayFault
replay_fault_of (bad_field o) = Format o
replay_fault_of read_fault = ReadFault
replay_fault_of no_memory = NoMemory
