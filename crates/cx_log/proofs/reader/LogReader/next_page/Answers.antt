use Rattle.std.proofs.lemmas.Result.{err_from_is_err_and}
use Rattle.std.proofs.Common.{arith, refl}
use Rattle.cx_log.specs.Engine.{turned_page_at}
use Rattle.cx_codec.proofs.Composing.{fails, goes, gives}
use Rattle.cx_log.proofs.Beginning.{begins_behind, turned_parts}
use Rattle.cx_log.proofs.reader.LogReader.next_page.Goals as goal

pub returns-then-self-eq0-clause-reads : goal.returns-then-self-eq0-clause-reads
unfolding turned_page_at
returns-then-self-eq0-clause-reads g c told = rw (← c.self.view_is, c.if-self-eq0.true) (gives told (λ p. refl))

pub returns-in_err-number-clause-reads : goal.returns-in_err-number-clause-reads
returns-in_err-number-clause-reads g c told =
    let p = err_from_is_err_and c.from_residual.result c.from_residual.ensures.1 in
    rw (← c.self.view_is, p.1, p.2) (fails _ (λ p. turned_parts _ _ _ p (omega arith)) refl
    (c.in_err-number.ensures.reads told))

pub returns-clause-reads : goal.returns-clause-reads
returns-clause-reads g c told =
    let page = c.in_ok-number.ensures.reads told in
    rw (← c.self.view_is) (goes _ (λ p. turned_parts _ _ _ p (omega arith)) page
    (goes _ (λ p. refl) (begins_behind _ _ _ _ c.begin_behind.ensures page.follows.told)
    (gives page.follows.told (λ p. refl))))
