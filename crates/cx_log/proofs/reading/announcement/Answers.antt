use Rattle.std.proofs.lemmas.Result.{err_from_is_err_and}
use Rattle.std.proofs.Common.{refl, arith}
use Rattle.cx_log.specs.Reading.{announced_at}
use Rattle.cx_codec.proofs.Composing.{fails, goes, gives}
use Rattle.cx_log.proofs.HeaderParts.{announced_some}
use Rattle.cx_log.proofs.reading.announcement.Goals as goal

pub returns-in_err-pages-clause-reads : goal.returns-in_err-pages-clause-reads
unfolding announced_at
returns-in_err-pages-clause-reads g c told =
    let p = err_from_is_err_and c.from_residual.result c.from_residual.ensures.1 in
    rw (p.1, p.2) (fails {reader = announced_at} _ (λ p. refl) refl (c.in_err-pages.ensures.reads told))

pub returns-then-pages-eq0-clause-reads : goal.returns-then-pages-eq0-clause-reads
unfolding announced_at
returns-then-pages-eq0-clause-reads g c told =
    let pages = c.in_ok-pages.ensures.reads told in
    goes {reader = announced_at} _ (λ p. refl) pages
    (rw c.if-pages-eq0.true (c.second_version.ensures.reads pages.follows.told))

pub returns-clause-reads : goal.returns-clause-reads
unfolding announced_at
returns-clause-reads g c told =
    let pages = c.in_ok-pages.ensures.reads told in
    goes {reader = announced_at} _ (λ p. refl) pages (gives pages.follows.told (λ p. announced_some _ p (omega arith)))
