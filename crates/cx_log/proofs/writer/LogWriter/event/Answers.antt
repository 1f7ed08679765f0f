use Rattle.std.proofs.lemmas.Result.{err_from_is_err_and}
use Rattle.cx_log.specs.Item.{payload_of}
use Rattle.cx_codec.proofs.Putting.{puts_on, puts_fails, puts_along}
use Rattle.cx_log.proofs.Items.{item_text}
use Rattle.cx_log.proofs.writer.LogWriter.event.Goals as goal

pub returns-in_err-put_start-clause-puts : goal.returns-in_err-put_start-clause-puts
returns-in_err-put_start-clause-puts g c =
    let p = err_from_is_err_and c.from_residual.result c.from_residual.ensures.1 in
    let rules = rw (← c.self.view_is) at c.requires.rules in
    rw (← c.self.view_is, p.1, p.2) (puts_along _ _ (item_text _ _ _ c.args.item.now.what c.requires.more rules)
    (puts_fails _ (payload_of c.args.item.now.what) (rw c.kind.ensures at c.in_err-put_start.ensures)))

pub returns-in_err-put_what-clause-puts : goal.returns-in_err-put_what-clause-puts
returns-in_err-put_what-clause-puts g c =
    let p = err_from_is_err_and c.from_residual-in_err-put_what.result c.from_residual-in_err-put_what.ensures.1 in
    let rules = rw (← c.self.view_is) at c.requires.rules in
    rw (← c.self.view_is, p.1, p.2) (puts_along _ _ (item_text _ _ _ c.args.item.now.what c.requires.more rules)
    (puts_on _ _ (rw c.kind.ensures at c.in_ok-put_start.ensures) c.in_err-put_what.ensures))

pub returns-clause-puts : goal.returns-clause-puts
returns-clause-puts g c =
    let rules = rw (← c.self.view_is) at c.requires.rules in
    rw (← c.self.view_is) (puts_along _ _ (item_text _ _ _ c.args.item.now.what c.requires.more rules)
    (puts_on _ _ (rw c.kind.ensures at c.in_ok-put_start.ensures) c.in_ok-put_what.ensures))
