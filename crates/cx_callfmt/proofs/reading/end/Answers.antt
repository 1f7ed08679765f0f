use Rattle.std.proofs.lemmas.Result.{err_from_is_err_and}
use Rattle.std.proofs.Common.{refl}
use Rattle.cx_codec.proofs.Composing.{fails, goes, gives}
use Rattle.cx_callfmt.specs.Beginning.{end_begun_at}
use Rattle.cx_callfmt.proofs.reading.end.Goals as goal

pub returns-in_err-count-clause-reads : goal.returns-in_err-count-clause-reads
unfolding end_begun_at
returns-in_err-count-clause-reads g c told =
    let p = err_from_is_err_and c.from_residual.result c.from_residual.ensures.1 in
    rw (p.1, p.2) (fails _ (λ p. refl) refl (c.in_err-count.ensures.reads told))

pub returns-clause-reads : goal.returns-clause-reads
unfolding end_begun_at
returns-clause-reads g c told =
    let count = c.in_ok-count.ensures.reads told in
    goes _ (λ p. refl) count (gives count.follows.told (λ p. refl))
