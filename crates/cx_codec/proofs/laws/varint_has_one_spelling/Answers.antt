use Rattle.cx_codec.proofs.ReadBack.{varint_once}
use Rattle.cx_codec.proofs.laws.varint_has_one_spelling.Goals as goal

pub returns : goal.returns
returns c = varint_once
