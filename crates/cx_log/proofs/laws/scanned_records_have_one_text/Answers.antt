use Rattle.cx_log.proofs.Scans.{records_once}
use Rattle.cx_log.proofs.laws.scanned_records_have_one_text.Goals as goal

pub returns : goal.returns
returns c = λ pages behind p after are stop. let s = records_once pages behind p after are stop in (s.order, s.takes)
