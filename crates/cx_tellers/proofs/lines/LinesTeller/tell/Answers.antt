use Rattle.cx_tellers.proofs.LineTold.{line_told}
use Rattle.cx_tellers.proofs.lines.LinesTeller.tell.Goals as goal

pub returns-clause-tells : goal.returns-clause-tells
returns-clause-tells g c asked o whole given base ordered at within due so_far =
    line_told o whole given base c.args.step c.args.rec.now at (rw (← c.self.view_is) at so_far.stands)
    c.step_line.ensures
