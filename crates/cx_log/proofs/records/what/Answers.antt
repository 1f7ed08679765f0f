use Rattle.std.proofs.lemmas.Result.{err_from_is_err_and}
use Rattle.std.proofs.Common.{refl}
use Rattle.cx_codec.proofs.Composing.{gives}
use Rattle.cx_log.proofs.Entries.{puts_fails, puts_event}
use Rattle.cx_log.proofs.records.what.Goals as goal

pub returns-in-End-clause-reads : goal.returns-in-End-clause-reads
returns-in-End-clause-reads g c told =
    rw c.in-End.is (gives told (λ p. refl))

pub returns-in-Mark-clause-reads : goal.returns-in-Mark-clause-reads
returns-in-Mark-clause-reads g c told =
    rw c.in-Mark.is (gives told (λ p. refl))

pub returns-in_err-place-in-Dma-clause-reads : goal.returns-in_err-place-in-Dma-clause-reads
returns-in_err-place-in-Dma-clause-reads g c told =
    let p = err_from_is_err_and c.from_residual.result c.from_residual.ensures.1 in
    rw (p.1, p.2, c.in-Dma.is) (puts_fails _ refl (c.in_err-place-in-Dma.ensures.reads told))

pub returns-in_ok-place-in-Dma-clause-reads : goal.returns-in_ok-place-in-Dma-clause-reads
returns-in_ok-place-in-Dma-clause-reads g c told =
    rw c.in-Dma.is (puts_event _ refl (c.in_ok-place-in-Dma.ensures.reads told))

pub returns-in_err-lines-in-Lines-clause-reads : goal.returns-in_err-lines-in-Lines-clause-reads
returns-in_err-lines-in-Lines-clause-reads g c told =
    let p = err_from_is_err_and c.from_residual-in_err-lines-in-Lines.result
    c.from_residual-in_err-lines-in-Lines.ensures.1 in
    rw (p.1, p.2, c.in-Lines.is) (puts_fails _ refl (c.in_err-lines-in-Lines.ensures.reads told))

pub returns-in_ok-lines-in-Lines-clause-reads : goal.returns-in_ok-lines-in-Lines-clause-reads
returns-in_ok-lines-in-Lines-clause-reads g c told =
    rw c.in-Lines.is (puts_event _ refl (c.in_ok-lines-in-Lines.ensures.reads told))

pub returns-in_err-value-in-Value-clause-reads : goal.returns-in_err-value-in-Value-clause-reads
returns-in_err-value-in-Value-clause-reads g c told =
    let p = err_from_is_err_and c.from_residual-in_err-value-in-Value.result
    c.from_residual-in_err-value-in-Value.ensures.1 in
    rw (p.1, p.2, c.in-Value.is) (puts_fails _ refl (c.in_err-value-in-Value.ensures.reads told))

pub returns-in_ok-value-in-Value-clause-reads : goal.returns-in_ok-value-in-Value-clause-reads
returns-in_ok-value-in-Value-clause-reads g c told =
    rw c.in-Value.is (puts_event _ refl (c.in_ok-value-in-Value.ensures.reads told))
