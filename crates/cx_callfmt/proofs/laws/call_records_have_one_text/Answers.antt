use Rattle.cx_callfmt.proofs.Entries.{once_record}
use Rattle.cx_callfmt.proofs.laws.call_records_have_one_text.Goals as goal

pub returns : goal.returns
returns c = once_record
