use Rattle.cx_slicefmt.proofs.Scans.{scan_once}
use Rattle.cx_slicefmt.proofs.laws.slices_have_one_text.Goals as goal

pub returns : goal.returns
returns c = scan_once
