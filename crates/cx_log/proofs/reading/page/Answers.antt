use Rattle.std.proofs.lemmas.Result.{err_from_is_err_and}
use Rattle.std.proofs.Common.{refl}
use Rattle.cx_log.specs.Reading.{page_at}
use Rattle.cx_codec.proofs.Composing.{fails, goes, gives}
use Rattle.cx_log.proofs.reading.page.Goals as goal

pub returns-in_err-number-clause-reads : goal.returns-in_err-number-clause-reads
unfolding page_at
returns-in_err-number-clause-reads g c told =
    let p = err_from_is_err_and c.from_residual.result c.from_residual.ensures.1 in
    rw (p.1, p.2) (fails _ (λ p. refl) refl (c.in_err-number.ensures.reads told))

pub returns-in_err-page_bytes-clause-reads : goal.returns-in_err-page_bytes-clause-reads
unfolding page_at
returns-in_err-page_bytes-clause-reads g c told =
    let p = err_from_is_err_and c.from_residual-in_err-page_bytes.result c.from_residual-in_err-page_bytes.ensures.1 in
    let number = c.in_ok-number.ensures.reads told in
    rw (p.1, p.2) (goes _ (λ p. refl) number
    (fails _ (λ p. refl) refl (c.in_err-page_bytes.ensures.reads number.follows.told)))

pub returns-clause-reads : goal.returns-clause-reads
unfolding page_at
returns-clause-reads g c told =
    let number = c.in_ok-number.ensures.reads told in
    let bytes = c.in_ok-page_bytes.ensures.reads number.follows.told in
    goes _ (λ p. refl) number (goes _ (λ p. refl) bytes (gives bytes.follows.told (λ p. refl)))
