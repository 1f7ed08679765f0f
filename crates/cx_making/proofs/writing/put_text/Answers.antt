use Rattle.std.proofs.Common.{[]}
use Rattle.std.proofs.lemmas.Result.{err_from_is_err_and}
use Rattle.cx_tellers.proofs.RootsTold.{finishes_on, fresh_put}
use Rattle.cx_making.proofs.writing.put_text.Goals as goal

pub returns-in_err-put_bytes-clause-puts : goal.returns-in_err-put_bytes-clause-puts
returns-in_err-put_bytes-clause-puts g c =
    let p = err_from_is_err_and c.from_residual-in_err-put_bytes.result c.from_residual-in_err-put_bytes.ensures.1 in
    let base = g.T.Sink.held c.args.sink.now in
    rw p.1 (c.in_err-put_bytes.ensures.refused base [] (fresh_put base _ c.in_ok-out.ensures))

pub returns-clause-puts : goal.returns-clause-puts
returns-clause-puts g c =
    let base = g.T.Sink.held c.args.sink.now in
    finishes_on base _ c.args.text.now _ _
    (c.in_ok-put_bytes.ensures.stands base [] (fresh_put base _ c.in_ok-out.ensures)) c.finish.ensures
