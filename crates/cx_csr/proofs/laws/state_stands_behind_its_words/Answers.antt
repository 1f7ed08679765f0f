use Rattle.cx_csr.proofs.StateAgain.{state_again}
use Rattle.cx_csr.proofs.laws.state_stands_behind_its_words.Goals as goal

pub returns : goal.returns
returns c = state_again
