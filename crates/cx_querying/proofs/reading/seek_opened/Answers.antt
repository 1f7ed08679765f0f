use Rattle.std.proofs.Common.{sym}
use Rattle.std.proofs.lemmas.Result.{err_from_is_err_and}
use Rattle.cx_log.specs.Reading.{Opened}
use Rattle.cx_commands.proofs.Inspecting.{inspect_stopped}
use Rattle.cx_commands.proofs.Judging.{bytes_of_begun}
use Rattle.cx_telling.proofs.Consuming.{consumes_all, consumes_some, replay_fault_is_early}
use Rattle.cx_querying.proofs.reading.seek_opened.Goals as goal

pub returns-in_err-seeker-clause-reads : goal.returns-in_err-seeker-clause-reads
returns-in_err-seeker-clause-reads g c told queries input bytes begins are begun =
    let p = err_from_is_err_and c.from_residual.result c.from_residual.ensures.1 in
    let o : Opened = record { header = c.args.opening.reader.header; memory = c.args.opening.machine.memory } in
    let stands = c.of_log-replay.ensures.stands (g.S.Source.given c.args.source.now) input
    (bytes_of_begun bytes o _ are begun)
    in
    let opens = c.in_err-seeker.ensures.opens told input begins _ o _ (sym c.header.ensures.header) stands in
    rw (p.1, p.2) (inspect_stopped queries bytes _ _ o _ c.in_err-seeker.field-0.0 are begun opens)

pub returns-clause-reads : goal.returns-clause-reads
returns-clause-reads g c told queries input bytes begins are begun =
    let o : Opened = record { header = c.args.opening.reader.header; memory = c.args.opening.machine.memory } in
    let stands = c.of_log-replay.ensures.stands (g.S.Source.given c.args.source.now) input
    (bytes_of_begun bytes o _ are begun)
    in
    let opens = c.in_ok-seeker.ensures.opens told input begins _ o _ (sym c.header.ensures.header) stands in
    λ h. record { opened = o; place = _; begun = begun; opens = opens h }

pub returns-in_err-seeker-clause-consumes : goal.returns-in_err-seeker-clause-consumes
returns-in_err-seeker-clause-consumes g c told =
    let p = err_from_is_err_and c.from_residual.result c.from_residual.ensures.1 in
    rw (p.1, p.2)
    (consumes_some (c.in_err-seeker.ensures.follows told) (replay_fault_is_early c.in_err-seeker.field-0.0))

pub returns-clause-consumes : goal.returns-clause-consumes
returns-clause-consumes g c told =
    consumes_all (c.in_ok-seeker.ensures.follows told) (c.in_ok-seeker.ensures.spent told)
