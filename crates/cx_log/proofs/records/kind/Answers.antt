use Rattle.std.proofs.lemmas.Result.{err_from_is_err_and}
use Rattle.std.proofs.Common.{refl}
use Rattle.cx_log.specs.Records.{kind_at}
use Rattle.cx_codec.proofs.Composing.{fails, goes, gives}
use Rattle.cx_log.proofs.records.kind.Goals as goal

pub returns-in_err-tag-clause-reads : goal.returns-in_err-tag-clause-reads
unfolding kind_at
returns-in_err-tag-clause-reads g c told =
    let p = err_from_is_err_and c.from_residual.result c.from_residual.ensures.1 in
    rw (p.1, p.2) (fails {reader = kind_at} _ (λ p. refl) refl (c.in_err-tag.ensures.reads told))

pub returns-clause-reads : goal.returns-clause-reads
unfolding kind_at
returns-clause-reads g c told =
    let tag = c.in_ok-tag.ensures.reads told in
    goes {reader = kind_at} _ (λ p. refl) tag (gives tag.follows.told (λ p. rw c.from_tag.ensures refl))
