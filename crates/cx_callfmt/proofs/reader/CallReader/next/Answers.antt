use Rattle.std.proofs.lemmas.Result.{err_from_is_err_and}
use Rattle.std.proofs.Common.{refl}
use Rattle.cx_slicefmt.proofs.Following.{ends_as, ends_with}
use Rattle.cx_callfmt.proofs.Following.{calls_call, calls_end, calls_fail, calls_items, calls_value}
use Rattle.cx_callfmt.proofs.reader.CallReader.next.Goals as goal

pub returns-in_err-found-clause-reads : goal.returns-in_err-found-clause-reads
returns-in_err-found-clause-reads g c told =
    let p = err_from_is_err_and c.from_residual.result c.from_residual.ensures.1 in
    rw (← c.self.view_is, p.1, p.2) (calls_fail _ (c.in_err-found.ensures.reads told))

pub returns-in-Items-clause-reads : goal.returns-in-Items-clause-reads
returns-in-Items-clause-reads g c told =
    rw (← c.self.view_is) (calls_items _ (rw c.in-Items.is at (c.in_ok-found.ensures.reads told)))

pub returns-in-Value-clause-reads : goal.returns-in-Value-clause-reads
returns-in-Value-clause-reads g c told =
    rw (← c.self.view_is) (calls_value _ (rw c.in-Value.is at (c.in_ok-found.ensures.reads told)))

pub returns-in-Call-clause-reads : goal.returns-in-Call-clause-reads
returns-in-Call-clause-reads g c told =
    rw (← c.self.view_is) (calls_call _ (rw c.in-Call.is at (c.in_ok-found.ensures.reads told)))

pub returns-in_err-close-in-End-clause-reads : goal.returns-in_err-close-in-End-clause-reads
returns-in_err-close-in-End-clause-reads g c told =
    let p = err_from_is_err_and c.from_residual-in_err-close-in-End.result
    c.from_residual-in_err-close-in-End.ensures.1 in
    let first = rw c.in-End.is at (c.in_ok-found.ensures.reads told) in
    rw (← c.self.view_is, p.1, p.2) (calls_end _ _ first
    (ends_as refl (c.in_err-close-in-End.ensures.ends first.follows.told)) tt)

pub returns-in_ok-close-in-End-clause-reads : goal.returns-in_ok-close-in-End-clause-reads
returns-in_ok-close-in-End-clause-reads g c told =
    let first = rw c.in-End.is at (c.in_ok-found.ensures.reads told) in
    rw (← c.self.view_is) (calls_end _ _ first
    (ends_with _ (c.in_ok-close-in-End.ensures.ends first.follows.told)) refl)
