use Rattle.std.proofs.Common.{[]}
use Rattle.std.proofs.lemmas.Result.{err_from_is_err_and}
use Rattle.cx_answer.specs.Lines.{answer_lines}
use Rattle.cx_codec.proofs.Putting.{nothing_put}
use Rattle.cx_querying.proofs.AnswerLines.{lines_finish}
use Rattle.cx_querying.proofs.lines.put_counted.Goals as goal

pub returns-in_err-put_lines-clause-puts : goal.returns-in_err-put_lines-clause-puts
returns-in_err-put_lines-clause-puts g c R of =
    let p = err_from_is_err_and c.from_residual-in_err-put_lines.result c.from_residual-in_err-put_lines.ensures.1 in
    let base = g.T.Sink.held c.args.sink.now in
    rw p.1 (c.in_err-put_lines.ensures.puts R base [] of (rw c.in_ok-out.ensures (nothing_put base)))

pub returns-clause-puts : goal.returns-clause-puts
returns-clause-puts g c R of =
    let base = g.T.Sink.held c.args.sink.now in
    let told = c.in_ok-put_lines.ensures.puts R base [] of (rw c.in_ok-out.ensures (nothing_put base)) in
    lines_finish base _ (answer_lines R c.args.queries.now) _ _ told.stands c.finish.ensures
