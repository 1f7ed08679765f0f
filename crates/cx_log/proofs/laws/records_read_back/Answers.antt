use Rattle.cx_log.proofs.RecordAgain.{record_again, end_again}
use Rattle.cx_log.proofs.laws.records_read_back.Goals as goal

pub returns-clause-put : goal.returns-clause-put
returns-clause-put c = record_again

pub returns-clause-ends : goal.returns-clause-ends
returns-clause-ends c = end_again
