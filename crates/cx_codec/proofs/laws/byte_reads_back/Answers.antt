use Rattle.cx_codec.proofs.ReadBack.{byte_again}
use Rattle.cx_codec.proofs.laws.byte_reads_back.Goals as goal

pub returns : goal.returns
returns c = byte_again
