use Rattle.cx_codec.proofs.ReadBack.{varint_again}
use Rattle.cx_codec.proofs.laws.varint_reads_back.Goals as goal

pub returns : goal.returns
returns c = varint_again
