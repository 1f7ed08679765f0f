use Rattle.std.proofs.lemmas.Result.{err_from_is_err_and}
use Rattle.std.proofs.Common.{refl}
use Rattle.cx_log.specs.Records.{dma_at}
use Rattle.cx_codec.proofs.Composing.{fails, goes, gives}
use Rattle.cx_log.proofs.records.dma.Goals as goal

pub returns-in_err-place-clause-reads : goal.returns-in_err-place-clause-reads
unfolding dma_at
returns-in_err-place-clause-reads g c told =
    let p = err_from_is_err_and c.from_residual.result c.from_residual.ensures.1 in
    rw (p.1, p.2) (fails _ (λ p. refl) refl (c.in_err-place.ensures.reads told))

pub returns-in_err-size-clause-reads : goal.returns-in_err-size-clause-reads
unfolding dma_at
returns-in_err-size-clause-reads g c told =
    let p = err_from_is_err_and c.from_residual-in_err-size.result c.from_residual-in_err-size.ensures.1 in
    let place = c.in_ok-place.ensures.reads told in
    rw (p.1, p.2) (goes _ (λ p. refl) place
    (fails _ (λ p. refl) refl (rw c.min-most.ensures at (c.in_err-size.ensures.reads place.follows.told))))

pub returns-in_err-read-clause-reads : goal.returns-in_err-read-clause-reads
unfolding dma_at
returns-in_err-read-clause-reads g c told =
    let p = err_from_is_err_and c.from_residual-in_err-read.result c.from_residual-in_err-read.ensures.1 in
    let place = c.in_ok-place.ensures.reads told in
    let size = rw c.min-most.ensures at (c.in_ok-size.ensures.reads place.follows.told) in
    rw (p.1, p.2) (goes _ (λ p. refl) place
    (goes _ (λ p. refl) size (fails _ (λ p. refl) refl (c.in_err-read.ensures.reads size.follows.told))))

pub returns-clause-reads : goal.returns-clause-reads
unfolding dma_at
returns-clause-reads g c told =
    let place = c.in_ok-place.ensures.reads told in
    let size = rw c.min-most.ensures at (c.in_ok-size.ensures.reads place.follows.told) in
    let bytes = c.in_ok-read.ensures.reads size.follows.told in
    goes _ (λ p. refl) place (goes _ (λ p. refl) size (goes _ (λ p. refl) bytes (gives bytes.follows.told (λ p. refl))))
