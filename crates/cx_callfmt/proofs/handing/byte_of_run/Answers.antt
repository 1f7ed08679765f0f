use Rattle.std.proofs.lemmas.Result.{err_from_is_err_and}
use Rattle.std.proofs.Common.{refl}
use Rattle.cx_codec.proofs.Composing.{fails, goes}
use Rattle.cx_callfmt.specs.Handing.{next_run}
use Rattle.cx_callfmt.proofs.handing.byte_of_run.Goals as goal

pub returns-in_err-va-clause-reads : goal.returns-in_err-va-clause-reads
unfolding next_run
returns-in_err-va-clause-reads g c told =
    let p = err_from_is_err_and c.from_residual.result c.from_residual.ensures.1 in
    rw (p.1, p.2) (fails _ (λ p. refl) refl (c.in_err-va.ensures.reads told))

pub returns-in_err-size-clause-reads : goal.returns-in_err-size-clause-reads
unfolding next_run
returns-in_err-size-clause-reads g c told =
    let p = err_from_is_err_and c.from_residual-in_err-size.result c.from_residual-in_err-size.ensures.1 in
    let va = c.in_ok-va.ensures.reads told in
    rw (p.1, p.2) (goes _ (λ p. refl) va
    (fails _ (λ p. refl) refl (rw c.room_at.ensures at (c.in_err-size.ensures.reads va.follows.told))))

pub returns-clause-reads : goal.returns-clause-reads
unfolding next_run
returns-clause-reads g c told =
    let va = c.in_ok-va.ensures.reads told in
    let size = rw c.room_at.ensures at (c.in_ok-size.ensures.reads va.follows.told) in
    goes _ (λ p. refl) va (goes _ (λ p. refl) size (c.byte_in.ensures.reads size.follows.told))
