use Rattle.std.proofs.Common.{refl, arith, ◌≡◌}
use Rattle.std.proofs.lemmas.Result.{err_from_is_err_and}
use Rattle.cx_codec.proofs.Composing.{fails, goes}
use Rattle.cx_slicefmt.specs.Reading.{entry_at}
use Rattle.cx_slicefmt.proofs.reading.entry.Goals as goal

pub returns-in_err-tag-clause-reads : goal.returns-in_err-tag-clause-reads
unfolding entry_at
returns-in_err-tag-clause-reads g c told =
    let p = err_from_is_err_and c.from_residual.result c.from_residual.ensures.1 in
    rw (p.1, p.2) (fails _ (λ p. refl) refl (rw c.one_if.ensures at (c.in_err-tag.ensures.reads told)))

pub returns-then-tag-eq0-clause-reads : goal.returns-then-tag-eq0-clause-reads
unfolding entry_at
returns-then-tag-eq0-clause-reads g c told =
    let tag = rw (c.one_if.ensures, c.if-tag-eq0.true) at (c.in_ok-tag.ensures.reads told) in
    goes _ (λ p. refl) tag (c.end.ensures.reads tag.follows.told)

pub returns-clause-reads : goal.returns-clause-reads
unfolding entry_at
returns-clause-reads g c told =
    let one : c.in_ok-tag.tag ≡ 1 = omega (arith, c.in_ok-tag.ensures.within, c.if-tag-eq0.false) in
    let tag = rw (c.one_if.ensures, one) at (c.in_ok-tag.ensures.reads told) in
    goes _ (λ p. refl) tag (c.group.ensures.reads tag.follows.told)
