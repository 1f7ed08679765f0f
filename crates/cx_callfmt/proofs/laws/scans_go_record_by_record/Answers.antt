use Rattle.cx_callfmt.proofs.Scans.{next_bad, scan_bad, scan_ends, scan_put, scan_rises}
use Rattle.cx_callfmt.proofs.laws.scans_go_record_by_record.Goals as goal

pub returns-clause-put : goal.returns-clause-put
returns-clause-put c = scan_put

pub returns-clause-ends : goal.returns-clause-ends
returns-clause-ends c = scan_ends

pub returns-clause-bad : goal.returns-clause-bad
returns-clause-bad c = scan_bad

pub returns-clause-next : goal.returns-clause-next
returns-clause-next c = next_bad

pub returns-clause-rises : goal.returns-clause-rises
returns-clause-rises c = λ behind p are. (scan_rises behind p are).records

pub returns-clause-upto : goal.returns-clause-upto
returns-clause-upto c = λ behind p are. (scan_rises behind p are).upto
