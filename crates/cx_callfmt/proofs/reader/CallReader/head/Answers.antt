use Rattle.std.proofs.lemmas.Result.{err_from_is_err_and}
use Rattle.cx_callfmt.proofs.reader.CallReader.head.Goals as goal

pub returns-in_err-found-clause-reads : goal.returns-in_err-found-clause-reads
returns-in_err-found-clause-reads g c told =
    let p = err_from_is_err_and c.from_residual.result c.from_residual.ensures.1 in
    rw (← c.self.view_is, p.1, p.2) (c.in_err-found.ensures.reads told)

pub returns-clause-reads : goal.returns-clause-reads
returns-clause-reads g c told = rw (← c.self.view_is) (c.in_ok-found.ensures.reads told)
