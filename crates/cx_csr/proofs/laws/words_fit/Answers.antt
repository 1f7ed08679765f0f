use Rattle.cx_csr.proofs.WordLists.{fit_from_keeps, length-words_of, wide-words_of}
use Rattle.cx_csr.proofs.laws.words_fit.Goals as goal

pub returns-clause-fit : goal.returns-clause-fit
returns-clause-fit c = fit_from_keeps

pub returns-clause-count : goal.returns-clause-count
returns-clause-count c = length-words_of

pub returns-clause-wide : goal.returns-clause-wide
returns-clause-wide c = wide-words_of
