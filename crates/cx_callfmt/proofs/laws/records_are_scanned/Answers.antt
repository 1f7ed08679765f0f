use Rattle.cx_callfmt.proofs.Scans.{scan_again, scan_cut, scan_once, scan_well}
use Rattle.cx_callfmt.proofs.laws.records_are_scanned.Goals as goal

pub returns-clause-scan : goal.returns-clause-scan
returns-clause-scan c = scan_again

pub returns-clause-whole : goal.returns-clause-whole
returns-clause-whole c = scan_well

pub returns-clause-cut : goal.returns-clause-cut
returns-clause-cut c = scan_cut

pub returns-clause-once : goal.returns-clause-once
returns-clause-once c = scan_once
