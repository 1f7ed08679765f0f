use Rattle.cx_slicefmt.proofs.Scans.{no_front}
use Rattle.cx_slicefmt.proofs.laws.no_slice_is_a_front.Goals as goal

pub returns : goal.returns
returns c = no_front
