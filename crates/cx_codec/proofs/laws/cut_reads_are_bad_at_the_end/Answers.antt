use Rattle.cx_codec.proofs.Composing.{bad_at_the_end}
use Rattle.cx_codec.proofs.laws.cut_reads_are_bad_at_the_end.Goals as goal

pub returns : goal.returns
returns g c = λ met view reader old new e cut read. bad_at_the_end cut read
