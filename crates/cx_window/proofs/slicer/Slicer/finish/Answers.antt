use Rattle.cx_window.proofs.WindowOf.{late_start}
use Rattle.cx_window.proofs.slicer.Slicer.finish.Goals as goal

pub returns-then-self-ge-STEP_LIMIT : goal.returns-then-self-ge-STEP_LIMIT
returns-then-self-ge-STEP_LIMIT c =
    late_start c.args.self.moment c.args.header.now.pages c.args.self.from c.args.self.to c.args.self.events
    (rw (← c.self.view_is) c.if-self-ge-STEP_LIMIT.true)
