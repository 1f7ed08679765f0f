use Rattle.cx_log.proofs.Scans.{records_again}
use Rattle.cx_log.proofs.laws.records_are_scanned.Goals as goal

pub returns : goal.returns
returns c = records_again
