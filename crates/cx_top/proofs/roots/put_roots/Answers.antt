use Rattle.std.proofs.Common.{[]}
use Rattle.std.proofs.lemmas.Result.{err_from_is_err_and}
use Rattle.cx_inspect.specs.Lines.{root_lines}
use Rattle.cx_tellers.proofs.RootsTold.{finishes_on, fresh_put}
use Rattle.cx_top.proofs.roots.put_roots.Goals as goal

pub returns-in_err-put_lines-clause-puts : goal.returns-in_err-put_lines-clause-puts
returns-in_err-put_lines-clause-puts g c =
    let p = err_from_is_err_and c.from_residual-in_err-put_lines.result c.from_residual-in_err-put_lines.ensures.1 in
    let base = g.T.Sink.held c.args.sink.now in
    rw p.1 (c.in_err-put_lines.ensures.refused base [] (fresh_put base _ c.in_ok-out.ensures))

pub returns-clause-puts : goal.returns-clause-puts
returns-clause-puts g c =
    let base = g.T.Sink.held c.args.sink.now in
    finishes_on base _ (root_lines c.args.roots.now) _ _
    (c.in_ok-put_lines.ensures.stands base [] (fresh_put base _ c.in_ok-out.ensures)) c.finish.ensures
