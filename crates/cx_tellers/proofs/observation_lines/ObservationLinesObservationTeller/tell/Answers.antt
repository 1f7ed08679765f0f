use Rattle.std.proofs.lemmas.Result.{err_from_is_err_and}
use Rattle.cx_tellers.proofs.ObservationLine.{count_more, shown_put, shown_refused, shown_unput}
use Rattle.cx_tellers.proofs.observation_lines.ObservationLinesObservationTeller.tell.Goals as goal

pub returns-in_err-next-clause-tells : goal.returns-in_err-next-clause-tells
returns-in_err-next-clause-tells g c os base told =
    let p = err_from_is_err_and c.from_residual.result c.from_residual.ensures.1 in
    rw p.1 (shown_unput os c.args.obs.now base _ _ told.stands)

pub returns-in_err-obs_line-clause-tells : goal.returns-in_err-obs_line-clause-tells
returns-in_err-obs_line-clause-tells g c os base told =
    let p = err_from_is_err_and c.from_residual-in_err-obs_line.result c.from_residual-in_err-obs_line.ensures.1 in
    rw p.1 (shown_refused os c.args.obs.now base c.args.self.now.count told.keeps told.stands c.in_err-obs_line.ensures)

pub returns-clause-tells : goal.returns-clause-tells
returns-clause-tells g c os base told = record {
  stands = shown_put os c.args.obs.now base c.args.self.now.count told.keeps told.stands c.in_ok-obs_line.ensures;
  keeps = count_more os c.args.obs.now c.args.self.now.count _ told.keeps c.in_ok-next.ensures.next;
}
