use Rattle.std.proofs.lemmas.Result.{err_from_is_err_and}
use Rattle.std.proofs.Common.{refl, ap}
use Rattle.cx_codec.specs.Reads.{BadAt}
use Rattle.cx_codec.proofs.Checked.{checked_fails, checked_passes, checked_breaks}
use Rattle.cx_log.proofs.FieldFaults.{met_same}
use Rattle.std.proofs.lemmas.Bool.{le-leb, lt-leb}
use Rattle.cx_log.proofs.fields.flag.Goals as goal

pub returns-in_err-flag-clause-reads : goal.returns-in_err-flag-clause-reads
returns-in_err-flag-clause-reads g c told =
    let p = err_from_is_err_and c.from_residual.result c.from_residual.ensures.1 in
    rw (p.1, p.2) (checked_fails _ (met_same _) (c.in_err-flag.ensures.reads told))

pub returns-then-flag-gt1-clause-reads : goal.returns-then-flag-gt1-clause-reads
returns-then-flag-gt1-clause-reads g c told =
    rw c.refuse.ensures (checked_breaks _ (lt-leb _ 1 c.if-flag-gt1.true) (ap BadAt c.at-start.ensures.at)
    (c.in_ok-flag.ensures.reads told))

pub returns-clause-reads : goal.returns-clause-reads
returns-clause-reads g c told =
    checked_passes _ (le-leb _ 1 c.if-flag-gt1.false) refl (c.in_ok-flag.ensures.reads told)
