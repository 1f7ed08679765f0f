use Rattle.cx_ram.proofs.Pages.{page_of-written, page_of-written_other}
use Rattle.cx_ram.proofs.laws.page_after_write.Goals as goal

pub returns-clause-same : goal.returns-clause-same
returns-clause-same c = page_of-written

pub returns-clause-others : goal.returns-clause-others
returns-clause-others c = page_of-written_other
