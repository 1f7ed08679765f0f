use Rattle.cx_marks.proofs.Stamped.{none_marked}
use Rattle.cx_marks.proofs.marks.Marks.new.Goals as goal

pub returns : goal.returns
returns c = none_marked _ c.new.ensures.none
