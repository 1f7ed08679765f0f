-- The fault of a field, and that of a recording.
use Rattle.std.proofs.Common.{◌≡◌, refl}
use Rattle.cx_codec.specs.declared.fault.BytesFault.{BytesFault}
use Rattle.cx_codec.specs.declared.fault.BytesFault.TheVariants.{Bad, ReadFault}
use Rattle.cx_codec.specs.Fault.{bytes_met}
use Rattle.cx_log.specs.Fault.{log_met, log_fault_of}

-- the fault of a field is that of the recording
pub met_same : (e : BytesFault) → log_met (log_fault_of e) ≡ bytes_met e
met_same (Bad o) = refl
met_same ReadFault = refl
