use Rattle.cx_hart.proofs.FormedRecords.{well_formed}
use Rattle.cx_hart.proofs.laws.a_record_is_well_formed.Goals as goal

pub returns : goal.returns
returns c = well_formed
