use Rattle.std.proofs.lemmas.Result.{err_from_is_err_and}
use Rattle.std.proofs.Common.{ap}
use Rattle.cx_codec.specs.Reads.{BadAt}
use Rattle.cx_codec.proofs.Closing.{closes_here, closes_later, close_fails}
use Rattle.cx_slicefmt.proofs.FieldFaults.{met_same}
use Rattle.cx_callfmt.proofs.reading.close.Goals as goal

pub returns-in_err-at_end-clause-ends : goal.returns-in_err-at_end-clause-ends
returns-in_err-at_end-clause-ends g c told =
    let p = err_from_is_err_and c.from_residual.result c.from_residual.ensures.1 in
    rw (p.1, p.2) (close_fails _ _ (met_same _) (c.in_err-at_end.ensures.ends told))

pub returns-then-branch-clause-ends : goal.returns-then-branch-clause-ends
returns-then-branch-clause-ends g c told =
    (closes_here (rw c.if-branch.true at (c.in_ok-at_end.ensures.ends told)))

pub returns-clause-ends : goal.returns-clause-ends
returns-clause-ends g c told =
    rw c.refuse.ensures (closes_later (rw c.if-branch.false at (c.in_ok-at_end.ensures.ends told))
    (ap BadAt c.at-start.ensures.at))
