-- What a fault of reading a slice says of the input, and what the fault of a field becomes.
use Rattle.cx_codec.specs.declared.fault.BytesFault.{BytesFault}
use Rattle.cx_codec.specs.declared.fault.BytesFault.TheVariants.{Bad, ReadFault}
use Rattle.cx_codec.specs.Reads.{Met, BadAt, Cut}
use Rattle.cx_slicefmt.specs.declared.fault.SliceFault.{SliceFault}
use Rattle.cx_slicefmt.specs.declared.fault.SliceFault.TheVariants.{Format, ReadFault as read_fault}

abbrev pub slice_met : SliceFault → Met
slice_met (Format o) = BadAt o
slice_met read_fault = Cut

abbrev pub slice_fault_of : BytesFault → SliceFault
slice_fault_of (Bad o) = Format o
slice_fault_of ReadFault = read_fault
