-- The fault of a field is that of the slice.
use Rattle.std.proofs.Common.{◌≡◌, refl}
use Rattle.cx_codec.specs.declared.fault.BytesFault.{BytesFault}
use Rattle.cx_codec.specs.declared.fault.BytesFault.TheVariants.{Bad, ReadFault}
use Rattle.cx_codec.specs.Fault.{bytes_met}
use Rattle.cx_slicefmt.specs.Fault.{slice_met, slice_fault_of}

pub met_same : (e : BytesFault) → slice_met (slice_fault_of e) ≡ bytes_met e
met_same (Bad o) = refl
met_same ReadFault = refl
