use Rattle.cx_shadow.proofs.Marked.{put_here, put_others}
use Rattle.cx_shadow.proofs.page.Page.put.Goals as goal

pub returns-clause-here : goal.returns-clause-here
returns-clause-here c = put_here c.args.self.now c.args.offset c.args.byte (search) (search) c.requires

pub returns-clause-others : goal.returns-clause-others
returns-clause-others c = put_others c.args.self.now c.args.offset c.args.byte (search) c.requires
