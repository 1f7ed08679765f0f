use Rattle.std.proofs.lemmas.Result.{err_from_is_err_and}
use Rattle.std.proofs.Common.{refl, ap, sym, ◌∙◌}
use Rattle.cx_codec.specs.Reads.{BadAt}
use Rattle.cx_codec.proofs.Composing.{fails, goes, gives, breaks}
use Rattle.cx_log.proofs.FieldFaults.{met_same}
use Rattle.cx_commands.specs.Opening.{kind_at, magic_by}
use Rattle.cx_telling.proofs.opening.read_magic.Goals as goal

pub returns-in_err-take-clause-reads : goal.returns-in_err-take-clause-reads
unfolding kind_at
returns-in_err-take-clause-reads g c told =
    let p = err_from_is_err_and c.from_residual.result c.from_residual.ensures.1 in
    rw (p.1, p.2) (fails {reader = kind_at} magic_by (λ p. refl) (met_same _) (c.in_err-take.ensures.reads told))

pub returns-then-eq-clause-reads : goal.returns-then-eq-clause-reads
unfolding kind_at
returns-then-eq-clause-reads g c told =
    let first = c.in_ok-take.ensures.reads told in
    goes {reader = kind_at} magic_by (λ p. refl) first
    (gives first.follows.told (λ p. rw (sym c.eq.ensures ∙ c.if-eq.true) refl))

pub returns-then-eq-2-clause-reads : goal.returns-then-eq-2-clause-reads
unfolding kind_at
returns-then-eq-2-clause-reads g c told =
    let first = c.in_ok-take.ensures.reads told in
    goes {reader = kind_at} magic_by (λ p. refl) first
    (gives first.follows.told (λ p. rw (sym c.eq.ensures ∙ c.if-eq.false, sym c.eq-2.ensures ∙ c.if-eq-2.true) refl))

pub returns-then-eq-3-clause-reads : goal.returns-then-eq-3-clause-reads
unfolding kind_at
returns-then-eq-3-clause-reads g c told =
    let first = c.in_ok-take.ensures.reads told in
    goes {reader = kind_at} magic_by (λ p. refl) first
    (gives first.follows.told (λ p. rw (
      sym c.eq.ensures ∙ c.if-eq.false,
      sym c.eq-2.ensures ∙ c.if-eq-2.false,
      sym c.eq-3.ensures ∙ c.if-eq-3.true,
    ) refl))

pub returns-clause-reads : goal.returns-clause-reads
unfolding kind_at
returns-clause-reads g c told =
    let first = c.in_ok-take.ensures.reads told in
    goes {reader = kind_at} magic_by (λ p. refl) first
    (breaks _ first.follows.told (ap BadAt c.at-start.ensures.at) (λ p. rw (
      sym c.eq.ensures ∙ c.if-eq.false,
      sym c.eq-2.ensures ∙ c.if-eq-2.false,
      sym c.eq-3.ensures ∙ c.if-eq-3.false,
    ) refl))
