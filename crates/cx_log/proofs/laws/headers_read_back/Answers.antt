use Rattle.cx_log.proofs.Headers.{header_again, header_once}
use Rattle.cx_log.proofs.laws.headers_read_back.Goals as goal

pub returns-clause-again : goal.returns-clause-again
returns-clause-again c = header_again

pub returns-clause-once : goal.returns-clause-once
returns-clause-once c = λ h p after are read. let stood = header_once h p after are read in (stood.is, stood.takes)
