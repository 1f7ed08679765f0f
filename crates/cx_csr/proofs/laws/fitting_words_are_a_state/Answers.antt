use Rattle.cx_csr.proofs.WordLists.{keeps-state_of, words_of-state_of}
use Rattle.cx_csr.proofs.laws.fitting_words_are_a_state.Goals as goal

pub returns-clause-keeps : goal.returns-clause-keeps
returns-clause-keeps c = keeps-state_of

pub returns-clause-words : goal.returns-clause-words
returns-clause-words c = words_of-state_of
