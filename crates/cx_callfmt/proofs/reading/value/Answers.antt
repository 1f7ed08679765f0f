use Rattle.std.proofs.lemmas.Result.{err_from_is_err_and}
use Rattle.std.proofs.Common.{refl}
use Rattle.cx_codec.proofs.Composing.{fails, goes, gives}
use Rattle.cx_slicefmt.proofs.FieldFaults.{met_same}
use Rattle.cx_callfmt.specs.Beginning.{value_begun_at}
use Rattle.cx_callfmt.proofs.reading.value.Goals as goal

pub returns-in_err-index-clause-reads : goal.returns-in_err-index-clause-reads
unfolding value_begun_at
returns-in_err-index-clause-reads g c told =
    let p = err_from_is_err_and c.from_residual.result c.from_residual.ensures.1 in
    rw (p.1, p.2) (fails _ (λ p. refl) refl (c.in_err-index.ensures.reads told))

pub returns-in_err-word-clause-reads : goal.returns-in_err-word-clause-reads
unfolding value_begun_at
returns-in_err-word-clause-reads g c told =
    let p = err_from_is_err_and c.from_residual-in_err-word.result c.from_residual-in_err-word.ensures.1 in
    let index = c.in_ok-index.ensures.reads told in
    rw (p.1, p.2) (goes _ (λ p. refl) index (fails _ (λ p. refl) (met_same _) (c.in_err-word.ensures.reads index.follows.told)))

pub returns-clause-reads : goal.returns-clause-reads
unfolding value_begun_at
returns-clause-reads g c told =
    let index = c.in_ok-index.ensures.reads told in
    let then = c.in_ok-word.ensures.reads index.follows.told in
    goes _ (λ p. refl) index (goes _ (λ p. refl) then (gives then.follows.told (λ p. refl)))
