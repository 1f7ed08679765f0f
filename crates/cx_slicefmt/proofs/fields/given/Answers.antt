use Rattle.std.proofs.lemmas.Result.{err_from_is_err_and}
use Rattle.std.proofs.Common.{refl}
use Rattle.cx_codec.proofs.Composing.{fails, goes}
use Rattle.cx_slicefmt.specs.Reading.{given_at}
use Rattle.cx_slicefmt.proofs.fields.given.Goals as goal

pub returns-in_err-flag-clause-reads : goal.returns-in_err-flag-clause-reads
unfolding given_at
returns-in_err-flag-clause-reads g c told =
    let p = err_from_is_err_and c.from_residual.result c.from_residual.ensures.1 in
    rw (p.1, p.2) (fails _ (λ p. refl) refl (rw c.one_if.ensures at (c.in_err-flag.ensures.reads told)))

pub returns-clause-reads : goal.returns-clause-reads
unfolding given_at
returns-clause-reads g c told =
    let flag = rw c.one_if.ensures at (c.in_ok-flag.ensures.reads told) in
    goes _ (λ p. refl) flag (c.word_if.ensures.reads flag.follows.told)
