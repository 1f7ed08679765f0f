use Rattle.std.proofs.lemmas.Result.{err_from_is_err_and}
use Rattle.std.proofs.Common.{refl}
use Rattle.cx_log.specs.Records.{asked_value_at}
use Rattle.cx_log.proofs.FieldFaults.{met_same}
use Rattle.cx_codec.proofs.Composing.{fails, goes, gives}
use Rattle.cx_log.proofs.records.value.Goals as goal

pub returns-in_err-word-clause-reads : goal.returns-in_err-word-clause-reads
unfolding asked_value_at
returns-in_err-word-clause-reads g c told =
    let p = err_from_is_err_and c.from_residual.result c.from_residual.ensures.1 in
    rw (p.1, p.2) (fails {reader = asked_value_at} _ (λ p. refl) (met_same _) (c.in_err-word.ensures.reads told))

pub returns-clause-reads : goal.returns-clause-reads
unfolding asked_value_at
returns-clause-reads g c told =
    let word = c.in_ok-word.ensures.reads told in
    goes {reader = asked_value_at} _ (λ p. refl) word (gives word.follows.told (λ p. refl))
