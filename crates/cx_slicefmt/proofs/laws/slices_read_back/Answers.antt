use Rattle.cx_slicefmt.proofs.Scans.{scan_again, scan_well, scan_cut}
use Rattle.cx_slicefmt.proofs.laws.slices_read_back.Goals as goal

pub returns-clause-scan : goal.returns-clause-scan
returns-clause-scan c = scan_again

pub returns-clause-whole : goal.returns-clause-whole
returns-clause-whole c = scan_well

pub returns-clause-cut : goal.returns-clause-cut
returns-clause-cut c = scan_cut
