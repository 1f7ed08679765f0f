use Rattle.std.proofs.Common.{sym, None, Some}
use Rattle.cx_marks.proofs.Stamped.{marked_by}
use Rattle.cx_marks.proofs.marks.Marks.has.Goals as goal

pub returns-in-None : goal.returns-in-None
returns-in-None c = marked_by c.args.self.now c.args.va None (sym c.in-None.ensures)

pub returns-in-Some : goal.returns-in-Some
returns-in-Some c = marked_by c.args.self.now c.args.va (Some c.in-Some.turn) (sym c.in-Some.ensures)
