use Rattle.std.proofs.lemmas.Result.{err_from_is_err_and}
use Rattle.std.proofs.Common.{refl}
use Rattle.cx_codec.proofs.Composing.{fails, goes, gives}
use Rattle.cx_callfmt.specs.Reading.{count_at}
use Rattle.cx_callfmt.proofs.fields.count.Goals as goal

pub returns-in_err-distance-clause-reads : goal.returns-in_err-distance-clause-reads
unfolding count_at
returns-in_err-distance-clause-reads g c told =
    let p = err_from_is_err_and c.from_residual.result c.from_residual.ensures.1 in
    rw (p.1, p.2) (fails _ (λ p. refl) refl (c.in_err-distance.ensures.reads told))

pub returns-clause-reads : goal.returns-clause-reads
unfolding count_at
returns-clause-reads g c told =
    let first = c.in_ok-distance.ensures.reads told in
    goes _ (λ p. refl) first (gives first.follows.told (λ p. refl))
