use Rattle.cx_log.proofs.Pages.{pages_again, pages_once}
use Rattle.cx_log.proofs.laws.pages_read_back.Goals as goal

pub returns-clause-again : goal.returns-clause-again
returns-clause-again c = pages_again

pub returns-clause-once : goal.returns-clause-once
returns-clause-once c = λ pages count p after memory is are read. let stood =
    pages_once pages count p after memory is are read in (stood.is, stood.counted, stood.takes)
