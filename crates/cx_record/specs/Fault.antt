-- What a writer's fault is called by the recorder.
use Rattle.cx_codec.specs.declared.fault.OutFault.{OutFault}
use Rattle.cx_codec.specs.declared.fault.OutFault.TheVariants as out
use Rattle.cx_record.specs.declared.fault.RecordFault.{RecordFault}
use Rattle.cx_record.specs.declared.fault.RecordFault.TheVariants.{NoMemory, WriteFault}

abbrev pub record_fault_of : OutFault → RecordFault
record_fault_of out.WriteFault = WriteFault
record_fault_of out.NoMemory = NoMemory
