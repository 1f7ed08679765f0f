use Rattle.cx_shadow.proofs.Marked.{blank_page}
use Rattle.cx_shadow.proofs.page.Page.blank.Goals as goal

pub returns-in-Ok : goal.returns-in-Ok
returns-in-Ok c = λ i. rw c.in-Ok.ensures.ok (blank_page i)
