use Rattle.std.proofs.Common.{[], refl, sym}
use Rattle.std.proofs.lemmas.Result.{err_from_is_err_and}
use Rattle.cx_log.specs.Reading.{Opened}
use Rattle.cx_commands.specs.Opening.{scan_from}
use Rattle.cx_commands.proofs.Judging.{bytes_of_begun}
use Rattle.cx_telling.proofs.Ordered.{ordered_behind}
use Rattle.cx_telling.proofs.Streamed.{out_is_early, streams_unstarted}
use Rattle.cx_telling.proofs.streaming.run_opened.Goals as goal

pub returns-in_err-teller-clause-does : goal.returns-in_err-teller-clause-does
returns-in_err-teller-clause-does g c told input bytes begins are begun =
    let p = err_from_is_err_and c.from_residual.result c.from_residual.ensures.1 in
    let o : Opened = record { header = c.args.opening.reader.header; memory = c.args.opening.machine.memory } in
    let ordered = ordered_behind bytes o _ are begun in
    rw (p.1, p.2) (streams_unstarted (g.W.Teller.there c.args.asked) (g.W.Teller.text c.args.asked)
    (g.W.Teller.full c.args.asked) bytes _ _ o _ _ _ c.in_err-teller.field-0.0 begun
    (λ ys. g.met.W.Teller.grows c.args.asked o (scan_from o _) [] ys ordered)
    (c.in_err-teller.ensures.starts o (scan_from o _) (sym c.header.ensures.header) refl))

pub returns-clause-does : goal.returns-clause-does
returns-clause-does g c told input bytes begins are begun =
    let o : Opened = record { header = c.args.opening.reader.header; memory = c.args.opening.machine.memory } in
    let base = g.T.Sink.held c.args.sink.now in
    let stands = c.of_log-replay.ensures.stands (g.S.Source.given c.args.source.now) input
    (bytes_of_begun bytes o _ are begun) in
    c.tell_run.ensures.does told input bytes begins are c.args.asked o _ base begun stands
    (c.in_ok-teller.ensures.starts o (scan_from o _) (sym c.header.ensures.header) refl)

pub returns-in_err-teller-clause-spent : goal.returns-in_err-teller-clause-spent
returns-in_err-teller-clause-spent g c told =
    let p = err_from_is_err_and c.from_residual.result c.from_residual.ensures.1 in
    rw (p.1, p.2) (λ j. absurd (out_is_early c.in_err-teller.field-0.0 j))
