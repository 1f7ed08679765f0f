use Rattle.cx_codec.proofs.ReadOnce.{word_once}
use Rattle.cx_codec.proofs.laws.word_has_one_spelling.Goals as goal

pub returns : goal.returns
returns c = record {
  stands = λ p after n are read. (word_once p after n are read).0;
  fits = λ p after n are read. (word_once p after n are read).1;
}
