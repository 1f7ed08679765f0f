-- What a fault of reading a recording says of the input, and what the fault of a field becomes.
use Rattle.cx_codec.specs.declared.fault.BytesFault.{BytesFault}
use Rattle.cx_codec.specs.declared.fault.BytesFault.TheVariants.{Bad, ReadFault}
use Rattle.cx_codec.specs.Reads.{Met, BadAt, Cut, Other}
use Rattle.cx_log.specs.declared.fault.LogFault.{LogFault}
use Rattle.cx_log.specs.declared.fault.LogFault.TheVariants.{Format, ReadFault as read_fault, NoMemory}

abbrev pub log_met : LogFault → Met
log_met (Format o) = BadAt o
log_met read_fault = Cut
log_met NoMemory = Other

abbrev pub log_fault_of : BytesFault → LogFault
log_fault_of (Bad o) = Format o
log_fault_of ReadFault = read_fault
