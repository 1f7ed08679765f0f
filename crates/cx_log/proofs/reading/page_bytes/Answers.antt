use Rattle.std.proofs.lemmas.Result.{err_from_is_err_and}
use Rattle.std.proofs.Common.{refl, ap, sym, ◌∙◌}
use Rattle.cx_codec.specs.Reads.{BadAt}
use Rattle.cx_log.specs.Reading.{page_bytes_at}
use Rattle.cx_codec.proofs.Composing.{fails, goes, gives, breaks}
use Rattle.cx_log.proofs.FieldFaults.{met_same}
use Rattle.cx_log.proofs.reading.page_bytes.Goals as goal

pub returns-in_err-take-clause-reads : goal.returns-in_err-take-clause-reads
unfolding page_bytes_at
returns-in_err-take-clause-reads g c told =
    let p = err_from_is_err_and c.from_residual.result c.from_residual.ensures.1 in
    rw (p.1, p.2) (fails {reader = page_bytes_at} _ (λ p. refl) (met_same _)
    (rw c.requires.size at (c.in_err-take.ensures.reads told)))

pub returns-then-is_all_zero-clause-reads : goal.returns-then-is_all_zero-clause-reads
unfolding page_bytes_at
returns-then-is_all_zero-clause-reads g c told =
    let first = rw c.requires.size at (c.in_ok-take.ensures.reads told) in
    rw c.refuse.ensures (goes {reader = page_bytes_at} _ (λ p. refl) first
    (breaks _ first.follows.told (ap BadAt c.at-start.ensures.at)
    (λ p. rw (sym c.is_all_zero.ensures ∙ c.if-is_all_zero.true) refl)))

pub returns-clause-reads : goal.returns-clause-reads
unfolding page_bytes_at
returns-clause-reads g c told =
    let first = rw c.requires.size at (c.in_ok-take.ensures.reads told) in
    goes {reader = page_bytes_at} _ (λ p. refl) first
    (gives first.follows.told (λ p. rw (sym c.is_all_zero.ensures ∙ c.if-is_all_zero.false) refl))
