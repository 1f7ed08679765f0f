use Rattle.std.proofs.lemmas.Result.{err_from_is_err_and}
use Rattle.cx_codec.proofs.Putting.{puts_on, puts_fails}
use Rattle.cx_slicefmt.specs.Engine.{items_in}
use Rattle.cx_slicefmt.specs.Text.{group_text, items_text}
use Rattle.cx_slicefmt.proofs.writer.GroupWriter.group.Goals as goal

pub returns-in_err-put_entry-clause-puts : goal.returns-in_err-put_entry-clause-puts
unfolding group_text
returns-in_err-put_entry-clause-puts g c =
    let p = err_from_is_err_and c.from_residual.result c.from_residual.ensures.1 in
    rw (← c.self.view_is, p.1, p.2) (puts_fails _ (items_text (items_in c.args.items.now))
    (rw c.last_before.ensures at c.in_err-put_entry.ensures))

pub returns-in_err-put_items-clause-puts : goal.returns-in_err-put_items-clause-puts
unfolding group_text
returns-in_err-put_items-clause-puts g c =
    let p = err_from_is_err_and c.from_residual-in_err-put_items.result c.from_residual-in_err-put_items.ensures.1 in
    rw (← c.self.view_is, p.1, p.2) (puts_on _ _ (rw c.last_before.ensures at c.in_ok-put_entry.ensures)
    c.in_err-put_items.ensures)

pub returns-clause-puts : goal.returns-clause-puts
unfolding group_text
returns-clause-puts g c =
    rw (← c.self.view_is) (puts_on _ _ (rw c.last_before.ensures at c.in_ok-put_entry.ensures)
    c.in_ok-put_items.ensures)
