use Rattle.cx_csr.proofs.LegalReads.{csr_read_word, modify_base_word}
use Rattle.cx_csr.proofs.laws.reads_are_words.Goals as goal

pub returns-clause-read : goal.returns-clause-read
returns-clause-read c = csr_read_word

pub returns-clause-base : goal.returns-clause-base
returns-clause-base c = modify_base_word
