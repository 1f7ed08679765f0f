use Rattle.std.proofs.lemmas.Result.{err_from_is_err_and}
use Rattle.std.proofs.Common.{refl}
use Rattle.cx_codec.proofs.Composing.{fails, goes, gives}
use Rattle.cx_callfmt.specs.Gathering.{one_onto}
use Rattle.cx_callfmt.proofs.Gathers.{call_met_same}
use Rattle.cx_callfmt.proofs.gathering.take_byte.Goals as goal

pub returns-in_err-next_byte-clause-reads : goal.returns-in_err-next_byte-clause-reads
unfolding one_onto
returns-in_err-next_byte-clause-reads g c told =
    let p = err_from_is_err_and c.from_residual.result c.from_residual.ensures.1 in
    rw (p.1, p.2) (fails _ (λ p. refl) (call_met_same _) (c.in_err-next_byte.ensures.reads told))

pub returns-in-None-clause-reads : goal.returns-in-None-clause-reads
unfolding one_onto
returns-in-None-clause-reads g c told =
    let next = rw c.in-None.is at (c.in_ok-next_byte.ensures.reads told) in
    goes _ (λ p. refl) next (gives next.follows.told (λ p. refl))

pub returns-in-Ok-clause-reads : goal.returns-in-Ok-clause-reads
unfolding one_onto
returns-in-Ok-clause-reads g c told =
    let next = rw c.in-Some.is at (c.in_ok-next_byte.ensures.reads told) in
    goes _ (λ p. refl) next (gives next.follows.told (λ p. rw c.in-Ok.ensures.items refl))
