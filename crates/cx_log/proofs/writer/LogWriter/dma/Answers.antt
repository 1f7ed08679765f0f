use Rattle.std.proofs.lemmas.Result.{err_from_is_err_and}
use Rattle.cx_log.specs.Item.{dma_event}
use Rattle.cx_log.specs.Text.{record_text, payload}
use Rattle.cx_log.specs.declared.item.What.TheVariants as what
use Rattle.cx_log.proofs.Items.{among_behind}
use Rattle.cx_codec.proofs.Putting.{puts_on, puts_fails}
use Rattle.cx_log.proofs.writer.LogWriter.dma.Goals as goal

pub returns-in_err-put_start-clause-puts : goal.returns-in_err-put_start-clause-puts
unfolding record_text
returns-in_err-put_start-clause-puts g c =
    let p = err_from_is_err_and c.from_residual.result c.from_residual.ensures.1 in
    rw (← c.self.view_is, p.1, p.2) (puts_fails _ (payload (dma_event c.args.bytes.now c.args.place))
    c.in_err-put_start.ensures)

pub returns-in_err-put_dma-clause-puts : goal.returns-in_err-put_dma-clause-puts
unfolding record_text
returns-in_err-put_dma-clause-puts g c =
    let p = err_from_is_err_and c.from_residual-in_err-put_dma.result c.from_residual-in_err-put_dma.ensures.1 in
    rw (← c.self.view_is, p.1, p.2) (puts_on _ _ c.in_ok-put_start.ensures c.in_err-put_dma.ensures)

pub invariant_of-self-2 : goal.invariant_of-self-2
invariant_of-self-2 g c =
    among_behind _ _ _ _ _ _ c.args.bytes.now (what.Dma c.args.place) (rw (← c.self.view_is) at c.requires.rules)
    c.self.invariant (c.after-self-inside.ensures c.args.bytes.now)

pub returns-clause-puts : goal.returns-clause-puts
unfolding record_text
returns-clause-puts g c =
    rw (← c.self.view_is) (puts_on _ _ c.in_ok-put_start.ensures c.in_ok-put_dma.ensures)

pub returns-clause-behind : goal.returns-clause-behind
returns-clause-behind g c =
    rw (← c.self.view_is) (c.after-self-inside.ensures c.args.bytes.now)
