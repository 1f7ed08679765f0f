use Rattle.std.proofs.lemmas.Result.{err_from_is_err_and}
use Rattle.std.proofs.Common.{refl, ap, sym, ◌∙◌}
use Rattle.cx_codec.specs.Reads.{BadAt}
use Rattle.cx_codec.proofs.Checked.{checked_fails, checked_passes, checked_breaks}
use Rattle.cx_slicefmt.proofs.FieldFaults.{met_same}
use Rattle.cx_callfmt.proofs.fields.number.Goals as goal

pub returns-in_err-number-clause-reads : goal.returns-in_err-number-clause-reads
returns-in_err-number-clause-reads g c told =
    let p = err_from_is_err_and c.from_residual.result c.from_residual.ensures.1 in
    rw (p.1, p.2) (checked_fails _ (met_same _) (c.in_err-number.ensures.reads told))

pub returns-then-not-is_between-clause-reads : goal.returns-then-not-is_between-clause-reads
returns-then-not-is_between-clause-reads g c told =
    rw c.refuse.ensures (checked_breaks _ (sym c.is_between.ensures.test ∙ c.if-not-is_between.true)
    (ap BadAt c.at-start.ensures.at) (c.in_ok-number.ensures.reads told))

pub returns-clause-reads : goal.returns-clause-reads
returns-clause-reads g c told =
    checked_passes _ (sym c.is_between.ensures.test ∙ c.if-not-is_between.false) refl
    (c.in_ok-number.ensures.reads told)
