use Rattle.std.proofs.lemmas.Result.{err_from_is_err_and}
use Rattle.std.proofs.Common.{refl}
use Rattle.cx_codec.proofs.Composing.{fails, goes, gives}
use Rattle.cx_live.specs.Reading.{given_flag_at}
use Rattle.cx_live.proofs.reading.given_flag.Goals as goal

pub returns-in_err-flag-clause-reads : goal.returns-in_err-flag-clause-reads
unfolding given_flag_at
returns-in_err-flag-clause-reads g c told =
    let p = err_from_is_err_and c.from_residual.result c.from_residual.ensures.1 in
    rw (p.1, p.2) (fails {reader = given_flag_at} _ (λ p. refl) refl (c.in_err-flag.ensures.reads told))

pub returns-clause-reads : goal.returns-clause-reads
unfolding given_flag_at
returns-clause-reads g c told =
    let flag = c.in_ok-flag.ensures.reads told in
    goes {reader = given_flag_at} _ (λ p. refl) flag (gives flag.follows.told (λ p. refl))
