use Rattle.cx_run.proofs.KeptText.{page_text-kept_pages, pages_text-kept_pages, page_count-kept_pages}
use Rattle.cx_run.proofs.laws.kept_pages_are_written_one_by_one.Goals as goal

pub returns-clause-page : goal.returns-clause-page
returns-clause-page c = page_text-kept_pages

pub returns-clause-pages : goal.returns-clause-pages
returns-clause-pages c = pages_text-kept_pages

pub returns-clause-count : goal.returns-clause-count
returns-clause-count c = page_count-kept_pages
