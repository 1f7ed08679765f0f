use Rattle.std.proofs.Common.{refl}
use Rattle.cx_marks.proofs.Stamped.{same_marks}
use Rattle.cx_marks.proofs.marks.Marks.hold_all.Goals as goal

pub returns-clause-marks : goal.returns-clause-marks
returns-clause-marks c = same_marks c.args.self.now _ refl c.hold_all.ensures.bytes
