use Rattle.cx_codec.proofs.ReadBack.{word_again}
use Rattle.cx_codec.proofs.laws.word_reads_back.Goals as goal

pub returns : goal.returns
returns c = word_again
