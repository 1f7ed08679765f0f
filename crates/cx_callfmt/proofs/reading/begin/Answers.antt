use Rattle.std.proofs.Common.{refl, arith, ◌≡◌}
use Rattle.std.proofs.lemmas.Result.{err_from_is_err_and}
use Rattle.cx_codec.proofs.Composing.{fails, goes}
use Rattle.cx_callfmt.specs.Beginning.{begun_at}
use Rattle.cx_callfmt.proofs.reading.begin.Goals as goal

pub returns-in_err-tag-clause-reads : goal.returns-in_err-tag-clause-reads
unfolding begun_at
returns-in_err-tag-clause-reads g c told =
    let p = err_from_is_err_and c.from_residual.result c.from_residual.ensures.1 in
    rw (p.1, p.2) (fails _ (λ p. refl) refl (c.in_err-tag.ensures.reads told))

pub returns-then-tag-eq0-clause-reads : goal.returns-then-tag-eq0-clause-reads
unfolding begun_at
returns-then-tag-eq0-clause-reads g c told =
    let tag = rw c.if-tag-eq0.true at (c.in_ok-tag.ensures.reads told) in
    goes _ (λ p. refl) tag (c.end.ensures.reads tag.follows.told)

pub returns-then-tag-eq1-clause-reads : goal.returns-then-tag-eq1-clause-reads
unfolding begun_at
returns-then-tag-eq1-clause-reads g c told =
    let tag = rw c.if-tag-eq1.true at (c.in_ok-tag.ensures.reads told) in
    goes _ (λ p. refl) tag (c.call.ensures.reads tag.follows.told)

pub returns-then-tag-eq2-clause-reads : goal.returns-then-tag-eq2-clause-reads
unfolding begun_at
returns-then-tag-eq2-clause-reads g c told =
    let tag = rw c.if-tag-eq2.true at (c.in_ok-tag.ensures.reads told) in
    goes _ (λ p. refl) tag (c.items.ensures.reads tag.follows.told)

pub returns-clause-reads : goal.returns-clause-reads
unfolding begun_at
returns-clause-reads g c told =
    let three : c.in_ok-tag.tag ≡ 3 = omega (
      arith,
      c.in_ok-tag.ensures.within,
      c.if-tag-eq0.false,
      c.if-tag-eq1.false,
      c.if-tag-eq2.false,
    ) in
    let tag = rw three at (c.in_ok-tag.ensures.reads told) in
    goes _ (λ p. refl) tag (c.value.ensures.reads tag.follows.told)
