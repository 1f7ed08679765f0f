use Rattle.std.proofs.lemmas.Result.{err_from_is_err_and}
use Rattle.std.proofs.Common.{refl, ap, sym, ◌∙◌}
use Rattle.cx_codec.specs.Reads.{BadAt}
use Rattle.cx_codec.proofs.Checked.{checked_fails, checked_passes, checked_breaks}
use Rattle.cx_slicefmt.proofs.FieldFaults.{met_same}
use Rattle.cx_callfmt.proofs.fields.address.Goals as goal

pub returns-in_err-word-clause-reads : goal.returns-in_err-word-clause-reads
returns-in_err-word-clause-reads g c told =
    let p = err_from_is_err_and c.from_residual.result c.from_residual.ensures.1 in
    rw (p.1, p.2) (checked_fails _ (met_same _) (c.in_err-word.ensures.reads told))

pub returns-then-not-is_above-clause-reads : goal.returns-then-not-is_above-clause-reads
returns-then-not-is_above-clause-reads g c told =
    rw c.refuse.ensures (checked_breaks _ (sym c.is_above.ensures ∙ c.if-not-is_above.true)
    (ap BadAt c.at-start.ensures.at) (c.in_ok-word.ensures.reads told))

pub returns-clause-reads : goal.returns-clause-reads
returns-clause-reads g c told =
    checked_passes _ (sym c.is_above.ensures ∙ c.if-not-is_above.false) refl
    (c.in_ok-word.ensures.reads told)
