use Rattle.cx_slicefmt.proofs.ItemParts.{nil_length}
use Rattle.cx_slicefmt.proofs.reading.has_none.Goals as goal

pub returns : goal.returns
returns c = rw c.len.ensures.value (nil_length _)
