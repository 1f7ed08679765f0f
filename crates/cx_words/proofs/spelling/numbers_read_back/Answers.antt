use Rattle.cx_words.proofs.Spelled.{decimal_reads, hexadecimal_reads, decimal_alone}
use Rattle.cx_words.proofs.spelling.numbers_read_back.Goals as goal

pub returns-clause-decimal_digits : goal.returns-clause-decimal_digits
returns-clause-decimal_digits c = decimal_reads

pub returns-clause-hexadecimal_digits : goal.returns-clause-hexadecimal_digits
returns-clause-hexadecimal_digits c = hexadecimal_reads

pub returns-clause-nothing_else : goal.returns-clause-nothing_else
returns-clause-nothing_else c = decimal_alone
