use Rattle.cx_slicefmt.proofs.Scans.{scan_put, scan_ends, scan_bad, next_bad, scan_rises}
use Rattle.cx_slicefmt.proofs.laws.scans_go_group_by_group.Goals as goal

pub returns-clause-put : goal.returns-clause-put
returns-clause-put c = scan_put

pub returns-clause-ends : goal.returns-clause-ends
returns-clause-ends c = scan_ends

pub returns-clause-bad : goal.returns-clause-bad
returns-clause-bad c = scan_bad

pub returns-clause-next : goal.returns-clause-next
returns-clause-next c = next_bad

pub returns-clause-rises : goal.returns-clause-rises
returns-clause-rises c = λ form least p are. (scan_rises form least p are).groups

pub returns-clause-upto : goal.returns-clause-upto
returns-clause-upto c = λ form least p are. (scan_rises form least p are).upto
