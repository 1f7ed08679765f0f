use Rattle.std.proofs.lemmas.Result.{err_from_is_err_and}
use Rattle.std.proofs.Common.{refl}
use Rattle.cx_codec.proofs.Composing.{fails, goes, given_as, refused_as}
use Rattle.cx_live.specs.Reading.{ram_at}
use Rattle.cx_live.proofs.Filling.{refused_unread}
use Rattle.cx_live.proofs.reading.memory.Goals as goal

pub returns-in_err-count-clause-reads : goal.returns-in_err-count-clause-reads
unfolding ram_at
returns-in_err-count-clause-reads g c told =
    let p = err_from_is_err_and c.from_residual.result c.from_residual.ensures.1 in
    rw (p.1, p.2) (fails {reader = ram_at c.args.pages} _ (λ p. refl) refl (c.in_err-count.ensures.reads told))

pub returns-in_err-machine-clause-reads : goal.returns-in_err-machine-clause-reads
returns-in_err-machine-clause-reads g c told =
    let p = err_from_is_err_and c.from_residual-in_err-machine.result c.from_residual-in_err-machine.ensures.1 in
    let count = c.in_ok-count.ensures.reads told in
    rw (p.1, p.2) (refused_unread count.follows refl)

pub returns-in_err-fill-clause-reads : goal.returns-in_err-fill-clause-reads
unfolding ram_at
returns-in_err-fill-clause-reads g c told =
    let p = err_from_is_err_and c.from_residual-in_err-fill.result c.from_residual-in_err-fill.ensures.1 in
    let count = c.in_ok-count.ensures.reads told in
    let pages = rw c.in_ok-machine.ensures.memory at (c.in_err-fill.ensures.reads count.follows.told) in
    rw (p.1, p.2) (goes {reader = ram_at c.args.pages} _ (λ p. refl) count (refused_as refl pages))

pub returns-clause-reads : goal.returns-clause-reads
unfolding ram_at
returns-clause-reads g c told =
    let count = c.in_ok-count.ensures.reads told in
    let pages = rw c.in_ok-machine.ensures.memory at (c.in_ok-fill.ensures.reads count.follows.told) in
    goes {reader = ram_at c.args.pages} _ (λ p. refl) count (given_as refl pages)
