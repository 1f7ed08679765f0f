use Rattle.cx_log.proofs.RecordOnce.{record_once}
use Rattle.cx_log.specs.Records.{Put, Ends}
use Rattle.cx_log.proofs.laws.records_have_one_text.Goals as goal

pub returns-clause-put : goal.returns-clause-put
returns-clause-put c = λ pages behind r p after are read. let stood = record_once pages behind p after
    (Put r) are read in (stood.may, stood.takes)

pub returns-clause-ends : goal.returns-clause-ends
returns-clause-ends c = λ pages behind end p after are read. let stood = record_once pages behind p after
    (Ends end) are read in (stood.may, stood.takes)
