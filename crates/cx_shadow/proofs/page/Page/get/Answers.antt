use Rattle.cx_shadow.proofs.Marked.{marked, unmarked}
use Rattle.cx_shadow.proofs.page.Page.get.Goals as goal

pub returns-then-self-offset-eq1 : goal.returns-then-self-offset-eq1
returns-then-self-offset-eq1 c = marked c.args.self.now c.args.offset c.if-self-offset-eq1.true

pub returns-else-self-offset-eq1 : goal.returns-else-self-offset-eq1
returns-else-self-offset-eq1 c = unmarked c.args.self.now c.args.offset c.if-self-offset-eq1.false
