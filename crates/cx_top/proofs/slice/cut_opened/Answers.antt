use Rattle.std.proofs.Common.{sym}
use Rattle.std.proofs.lemmas.Result.{err_from_is_err_and}
use Rattle.cx_log.specs.Reading.{Opened}
use Rattle.cx_commands.proofs.Answering.{lacks_window, refused_replay}
use Rattle.cx_telling.proofs.Consuming.{consumes_all, consumes_some, replay_fault_is_early}
use Rattle.cx_commands.proofs.Judging.{bytes_of_begun, is_judged}
use Rattle.cx_top.proofs.slice.cut_opened.Goals as goal

pub returns-in_err-window-clause-reads : goal.returns-in_err-window-clause-reads
returns-in_err-window-clause-reads g c told full input bytes begins are begun =
    let p = err_from_is_err_and c.from_residual.result c.from_residual.ensures.1 in
    let o : Opened = record { header = c.args.opening.reader.header; memory = c.args.opening.machine.memory } in
    let stands = c.of_log-replay.ensures.stands (g.S.Source.given c.args.source.now) input
    (bytes_of_begun bytes o _ are begun)
    in
    let cuts = c.in_err-window.ensures.cuts told input begins _ o _ (sym c.header.ensures.header)
    (is_judged bytes o _ are begun) stands in
    rw (p.1, p.2) (refused_replay full c.args.span.from c.args.span.to bytes _ _ o _ c.in_err-window.field-0.0 are begun
    cuts)

pub returns-in-Some-clause-reads : goal.returns-in-Some-clause-reads
returns-in-Some-clause-reads g c told full input bytes begins are begun =
    let o : Opened = record { header = c.args.opening.reader.header; memory = c.args.opening.machine.memory } in
    let stands = c.of_log-replay.ensures.stands (g.S.Source.given c.args.source.now) input
    (bytes_of_begun bytes o _ are begun)
    in
    let cuts = c.in_ok-window.ensures.cuts told input begins _ o _ (sym c.header.ensures.header)
    (is_judged bytes o _ are begun) stands in
    let some = rw c.in-Some.is at cuts in
    λ h. record { opened = o; place = _; begun = begun; cuts = some h }

pub returns-in-None-clause-reads : goal.returns-in-None-clause-reads
returns-in-None-clause-reads g c told full input bytes begins are begun =
    let o : Opened = record { header = c.args.opening.reader.header; memory = c.args.opening.machine.memory } in
    let stands = c.of_log-replay.ensures.stands (g.S.Source.given c.args.source.now) input
    (bytes_of_begun bytes o _ are begun)
    in
    let cuts = c.in_ok-window.ensures.cuts told input begins _ o _ (sym c.header.ensures.header)
    (is_judged bytes o _ are begun) stands in
    let none = rw c.in-None.is at cuts in
    λ h. lacks_window full c.args.span.from c.args.span.to bytes o _ begun (none h)

pub returns-in_err-window-clause-consumes : goal.returns-in_err-window-clause-consumes
returns-in_err-window-clause-consumes g c told =
    let p = err_from_is_err_and c.from_residual.result c.from_residual.ensures.1 in
    rw (p.1, p.2)
    (consumes_some (c.in_err-window.ensures.follows told) (replay_fault_is_early c.in_err-window.field-0.0))

pub returns-in-Some-clause-consumes : goal.returns-in-Some-clause-consumes
returns-in-Some-clause-consumes g c told =
    consumes_all (c.in_ok-window.ensures.follows told) (c.in_ok-window.ensures.spent told)

pub returns-in-None-clause-consumes : goal.returns-in-None-clause-consumes
returns-in-None-clause-consumes g c told =
    consumes_all (c.in_ok-window.ensures.follows told) (c.in_ok-window.ensures.spent told)
