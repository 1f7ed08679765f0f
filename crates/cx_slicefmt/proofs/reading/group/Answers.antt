use Rattle.std.proofs.Common.{refl}
use Rattle.std.proofs.lemmas.Result.{err_from_is_err_and}
use Rattle.cx_codec.proofs.Composing.{fails, goes, gives}
use Rattle.cx_slicefmt.proofs.reading.group.Goals as goal

pub returns-in_err-index-clause-reads : goal.returns-in_err-index-clause-reads
returns-in_err-index-clause-reads g c told =
    let p = err_from_is_err_and c.from_residual.result c.from_residual.ensures.1 in
    rw (p.1, p.2) (fails _ (λ p. refl) refl (c.in_err-index.ensures.reads told))

pub returns-in_err-items-clause-reads : goal.returns-in_err-items-clause-reads
returns-in_err-items-clause-reads g c told =
    let p = err_from_is_err_and c.from_residual-in_err-items.result c.from_residual-in_err-items.ensures.1 in
    let index = c.in_ok-index.ensures.reads told in
    rw (p.1, p.2) (goes _ (λ p. refl) index (fails _ (λ p. refl) refl (c.in_err-items.ensures.reads index.follows.told)))

pub returns-clause-reads : goal.returns-clause-reads
returns-clause-reads g c told =
    let index = c.in_ok-index.ensures.reads told in
    let items = c.in_ok-items.ensures.reads index.follows.told in
    goes _ (λ p. refl) index (goes _ (λ p. refl) items (gives items.follows.told (λ p. refl)))
