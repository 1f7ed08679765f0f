use Rattle.cx_csr.proofs.SameWords.{same_from_words}
use Rattle.cx_csr.proofs.laws.words_determine_the_state.Goals as goal

pub returns : goal.returns
returns c = same_from_words
