use Rattle.std.proofs.lemmas.Result.{err_from_is_err_and}
use Rattle.std.proofs.Common.{refl}
use Rattle.cx_log.specs.Reading.{second_version_at}
use Rattle.cx_codec.proofs.Composing.{fails, goes, gives}
use Rattle.cx_log.proofs.reading.second_version.Goals as goal

pub returns-in_err-flag_byte-clause-reads : goal.returns-in_err-flag_byte-clause-reads
unfolding second_version_at
returns-in_err-flag_byte-clause-reads g c told =
    let p = err_from_is_err_and c.from_residual.result c.from_residual.ensures.1 in
    rw (p.1, p.2) (fails {reader = second_version_at} _ (λ p. refl) refl (c.in_err-flag_byte.ensures.reads told))

pub returns-in_err-pages-clause-reads : goal.returns-in_err-pages-clause-reads
unfolding second_version_at
returns-in_err-pages-clause-reads g c told =
    let p = err_from_is_err_and c.from_residual-in_err-pages.result c.from_residual-in_err-pages.ensures.1 in
    let flag = c.in_ok-flag_byte.ensures.reads told in
    rw (p.1, p.2) (goes {reader = second_version_at} _ (λ p. refl) flag
    (fails _ (λ p. refl) refl (c.in_err-pages.ensures.reads flag.follows.told)))

pub returns-clause-reads : goal.returns-clause-reads
unfolding second_version_at
returns-clause-reads g c told =
    let flag = c.in_ok-flag_byte.ensures.reads told in
    let pages = c.in_ok-pages.ensures.reads flag.follows.told in
    goes {reader = second_version_at} _ (λ p. refl) flag
    (goes _ (λ p. refl) pages (gives pages.follows.told (λ p. refl)))
