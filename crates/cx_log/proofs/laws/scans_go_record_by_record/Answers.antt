use Rattle.cx_log.proofs.Scans.{scan_put, scan_ends, scan_bad}
use Rattle.cx_log.proofs.laws.scans_go_record_by_record.Goals as goal

pub returns-clause-put : goal.returns-clause-put
returns-clause-put c = scan_put

pub returns-clause-ends : goal.returns-clause-ends
returns-clause-ends c = scan_ends

pub returns-clause-bad : goal.returns-clause-bad
returns-clause-bad c = scan_bad
