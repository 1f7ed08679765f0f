use Rattle.std.proofs.lemmas.Result.{err_from_is_err_and}
use Rattle.std.proofs.Common.{refl}
use Rattle.cx_log.specs.Records.{record_at}
use Rattle.cx_codec.proofs.Composing.{fails, goes, refused_as, given_as}
use Rattle.cx_log.proofs.Items.{among_behind, item_stands}
use Rattle.cx_log.proofs.reader.LogReader.next.Goals as goal

pub returns-in_err-kind-clause-reads : goal.returns-in_err-kind-clause-reads
unfolding record_at
returns-in_err-kind-clause-reads g c told =
    let p = err_from_is_err_and c.from_residual.result c.from_residual.ensures.1 in
    rw (← c.self.view_is, p.1, p.2) (fails _ (λ p. refl) refl (c.in_err-kind.ensures.reads told))

pub returns-in_err-step-clause-reads : goal.returns-in_err-step-clause-reads
unfolding record_at
returns-in_err-step-clause-reads g c told =
    let p = err_from_is_err_and c.from_residual-in_err-step.result c.from_residual-in_err-step.ensures.1 in
    let kind = c.in_ok-kind.ensures.reads told in
    rw (← c.self.view_is, p.1, p.2)
    (goes _ (λ p. refl) kind (fails _ (λ p. refl) refl (c.in_err-step.ensures.reads kind.follows.told)))

pub returns-in_err-what-clause-reads : goal.returns-in_err-what-clause-reads
unfolding record_at
returns-in_err-what-clause-reads g c told =
    let p = err_from_is_err_and c.from_residual-in_err-what.result c.from_residual-in_err-what.ensures.1 in
    let kind = c.in_ok-kind.ensures.reads told in
    let step = c.in_ok-step.ensures.reads kind.follows.told in
    rw (← c.self.view_is, p.1, p.2)
    (goes _ (λ p. refl) kind
    (goes _ (λ p. refl) step (refused_as refl (c.in_err-what.ensures.reads step.follows.told))))

pub invariant_of-self-2 : goal.invariant_of-self-2
invariant_of-self-2 g c =
    let stands = item_stands _ _ _ _ c.in_ok-what.what (rw c.in_ok-what.ensures.kind c.in_ok-step.ensures.stands)
    c.in_ok-what.ensures.holds in
    among_behind _ _ _ _ _ _ _ c.in_ok-what.what stands c.self.invariant (c.after-self-inside.ensures _)

pub returns-clause-reads : goal.returns-clause-reads
unfolding record_at
returns-clause-reads g c told =
    let kind = c.in_ok-kind.ensures.reads told in
    let step = c.in_ok-step.ensures.reads kind.follows.told in
    rw (← c.self.view_is)
    (goes _ (λ p. refl) kind
    (goes _ (λ p. refl) step (given_as refl (c.in_ok-what.ensures.reads step.follows.told))))
