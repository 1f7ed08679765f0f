-- What a fault of reading a field says of the input.
use Rattle.cx_codec.specs.declared.fault.BytesFault.{BytesFault}
use Rattle.cx_codec.specs.declared.fault.BytesFault.TheVariants.{Bad, ReadFault}
use Rattle.cx_codec.specs.Reads.{Met, BadAt, Cut}

abbrev pub bytes_met : BytesFault → Met
bytes_met (Bad o) = BadAt o
bytes_met ReadFault = Cut
