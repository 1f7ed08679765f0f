-- What a sink's refusal is called by a writer.
use Rattle.cx_io.specs.declared.outside.SinkRefusal.{SinkRefusal}
use Rattle.cx_io.specs.declared.outside.SinkRefusal.TheVariants.{Failed, NoMemory}
use Rattle.cx_codec.specs.declared.fault.OutFault.{OutFault}
use Rattle.cx_codec.specs.declared.fault.OutFault.TheVariants.{WriteFault, NoMemory as no_memory}

abbrev pub out_fault_of : SinkRefusal → OutFault
out_fault_of Failed = WriteFault
out_fault_of NoMemory = no_memory
