use Rattle.cx_codec.proofs.Blocks.{front_longer}
use Rattle.cx_codec.proofs.laws.fronts_of_longer_texts.Goals as goal

pub returns : goal.returns
returns c = front_longer
