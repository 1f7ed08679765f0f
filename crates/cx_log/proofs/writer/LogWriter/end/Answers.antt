use Rattle.std.proofs.lemmas.Result.{err_from_is_err_and}
use Rattle.std.proofs.Common.{[]}
use Rattle.std.proofs.lemmas.List.{append-nil}
use Rattle.cx_log.specs.Text.{end_text}
use Rattle.cx_codec.proofs.Putting.{finishes_on, finishes_fails, finishes_along}
use Rattle.cx_log.proofs.writer.LogWriter.end.Goals as goal

pub returns-in_err-put_start : goal.returns-in_err-put_start
unfolding end_text
returns-in_err-put_start g c =
    let p = err_from_is_err_and c.from_residual.result c.from_residual.ensures.1 in
    rw (← c.self.view_is, p.1, p.2) (finishes_along _ _ (append-nil _) (finishes_fails _ [] c.in_err-put_start.ensures))

pub returns : goal.returns
unfolding end_text
returns g c =
    rw (← c.self.view_is) (finishes_along _ _ (append-nil _) (finishes_on _ [] c.in_ok-put_start.ensures
    c.finish.ensures))
