use Rattle.std.proofs.lemmas.Result.{err_from_is_err_and}
use Rattle.std.proofs.Common.{[]}
use Rattle.std.proofs.lemmas.List.{append-nil}
use Rattle.cx_slicefmt.specs.Text.{slice_end_text}
use Rattle.cx_codec.proofs.Putting.{finishes_on, finishes_fails, finishes_along}
use Rattle.cx_slicefmt.proofs.writer.GroupWriter.end.Goals as goal

pub returns-in_err-put_entry : goal.returns-in_err-put_entry
unfolding slice_end_text
returns-in_err-put_entry g c =
    let p = err_from_is_err_and c.from_residual.result c.from_residual.ensures.1 in
    rw (← c.self.view_is, p.1, p.2) (finishes_along _ _ (append-nil _)
    (finishes_fails _ [] (rw c.last_before.ensures at c.in_err-put_entry.ensures)))

pub returns : goal.returns
unfolding slice_end_text
returns g c =
    rw (← c.self.view_is) (finishes_along _ _ (append-nil _)
    (finishes_on _ [] (rw c.last_before.ensures at c.in_ok-put_entry.ensures) c.finish.ensures))
