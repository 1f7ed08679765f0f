use Rattle.cx_codec.proofs.ReadBack.{bytes_again}
use Rattle.cx_codec.proofs.laws.bytes_read_back.Goals as goal

pub returns : goal.returns
returns c = bytes_again
