use Rattle.cx_run.proofs.KeptPages.{page_of-kept_pages, length-kept_pages, IsMemory-kept_pages}
use Rattle.cx_run.proofs.laws.kept_pages_are_those_of_the_memory.Goals as goal

pub returns-clause-page : goal.returns-clause-page
returns-clause-page c = page_of-kept_pages

pub returns-clause-size : goal.returns-clause-size
returns-clause-size c = length-kept_pages

pub returns-clause-memory : goal.returns-clause-memory
returns-clause-memory c = IsMemory-kept_pages
