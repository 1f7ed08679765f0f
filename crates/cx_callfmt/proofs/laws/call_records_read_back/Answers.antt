use Rattle.cx_callfmt.proofs.Entries.{reads_record, reads_last}
use Rattle.cx_callfmt.proofs.laws.call_records_read_back.Goals as goal

pub returns-clause-record : goal.returns-clause-record
returns-clause-record c = reads_record

pub returns-clause-end : goal.returns-clause-end
returns-clause-end c = reads_last
