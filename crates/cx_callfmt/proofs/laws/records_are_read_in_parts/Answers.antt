use Rattle.cx_callfmt.proofs.Begins.{head_parts, records_begin}
use Rattle.cx_callfmt.proofs.laws.records_are_read_in_parts.Goals as goal

pub returns-clause-head : goal.returns-clause-head
returns-clause-head c = head_parts

pub returns-clause-record : goal.returns-clause-record
returns-clause-record c = records_begin
