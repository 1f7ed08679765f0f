use Rattle.std.proofs.lemmas.Result.{err_from_is_err_and}
use Rattle.std.proofs.Common.{refl}
use Rattle.cx_log.specs.Records.{step_at}
use Rattle.cx_codec.proofs.Composing.{fails, goes, gives}
use Rattle.cx_log.proofs.records.step.Goals as goal

pub returns-in_err-distance-clause-reads : goal.returns-in_err-distance-clause-reads
unfolding step_at
returns-in_err-distance-clause-reads g c told =
    let p = err_from_is_err_and c.from_residual.result c.from_residual.ensures.1 in
    rw (p.1, p.2) (fails _ (λ p. refl) refl (c.in_err-distance.ensures.reads told))

pub returns-clause-reads : goal.returns-clause-reads
unfolding step_at
returns-clause-reads g c told =
    let distance = c.in_ok-distance.ensures.reads told in
    goes _ (λ p. refl) distance (gives distance.follows.told (λ p. refl))
