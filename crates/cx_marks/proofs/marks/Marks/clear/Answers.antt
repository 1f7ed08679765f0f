use Rattle.std.proofs.Common.{refl}
use Rattle.cx_marks.proofs.Stamped.{none_marked, none_yet}
use Rattle.cx_marks.proofs.marks.Marks.clear.Goals as goal

pub returns-then-self : goal.returns-then-self
returns-then-self c = none_marked _ c.new.ensures.none

pub returns-else-self : goal.returns-else-self
returns-else-self c = none_yet _ c.args.self.now.turn c.args.self.now.before refl
