use borrow.Author.Tests.{eqb-true}
use Rattle.cx_walk.proofs.Flags.{pointer_flags}
use Rattle.cx_walk.proofs.quickly.points.Goals as goal

pub returns : goal.returns
returns c is = pointer_flags c.args.entry (eqb-true _ _ is)
