use Rattle.cx_run.proofs.PagesRead.{is_read-none, is_read-more}
use Rattle.cx_run.proofs.laws.pages_are_marked_step_by_step.Goals as goal

pub returns-clause-none : goal.returns-clause-none
returns-clause-none g c = is_read-none

pub returns-clause-more : goal.returns-clause-more
returns-clause-more g c = is_read-more
