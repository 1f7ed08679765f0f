use Rattle.std.proofs.Common.{◌≡◌, sym, subst, Ok}
use Rattle.std.proofs.lemmas.Result.{err_from_is_err_and}
use Rattle.cx_codec.proofs.Following.{begins_on}
use Rattle.cx_codec.specs.Place.{Buffered}
use Rattle.cx_codec.specs.Reads.{over, place_in}
use Rattle.cx_log.specs.Reading.{start_of}
use Rattle.cx_commands.specs.Call.{input_behind}
use Rattle.cx_commands.specs.Opening.{begun_at}
use Rattle.cx_commands.proofs.Inspecting.{inspect_refused}
use Rattle.cx_telling.proofs.Consuming.{consumes_on, consumes_some, gave_of_follows, log_fault_is_early}
use Rattle.cx_querying.proofs.reading.read_seeker.Goals as goal

pub returns-in_err-opening-clause-consumes : goal.returns-in_err-opening-clause-consumes
returns-in_err-opening-clause-consumes g c told =
    let p = err_from_is_err_and c.from_residual.result c.from_residual.ensures.1 in
    rw (p.1, p.2)
    (consumes_some (gave_of_follows (c.in_err-opening.ensures.opens told).reads.follows)
    (log_fault_is_early c.in_err-opening.field-0.0))

pub returns-clause-consumes : goal.returns-clause-consumes
returns-clause-consumes g c told =
    let opened = (c.in_ok-opening.ensures.opens told).reads.follows in
    consumes_on (gave_of_follows opened) (c.seek_opened.ensures.consumes opened.told)

pub returns-in_err-opening-clause-reads : goal.returns-in_err-opening-clause-reads
returns-in_err-opening-clause-reads g c told queries input begins are =
    let p = err_from_is_err_and c.from_residual.result c.from_residual.ensures.1 in
    rw (p.1, p.2) (inspect_refused queries _ _ _ c.in_err-opening.field-0.0
    ((c.in_err-opening.ensures.opens told).reads.reads input begins))

pub returns-clause-reads : goal.returns-clause-reads
returns-clause-reads g c told queries input begins are =
    let opened = c.in_ok-opening.ensures.opens told in
    let first = begins_on (c.seek_opened.ensures.consumes opened.reads.follows.told).gave.grows begins in
    let read = opened.reads.reads input first in
    let stood = subst (λ (b : Buffered). begun_at (start_of (input_behind (g.S.Source.given c.args.source.now) input))
    ≡ Ok (
      record { header = c.in_ok-opening.opening.reader.header; memory = c.in_ok-opening.opening.machine.memory },
      place_in (over b (g.S.Source.left c.open.new.source) (g.S.Source.given c.open.new.source)) input,
    )) (sym opened.keeps) read in
    c.seek_opened.ensures.reads opened.reads.follows.told queries input
    (input_behind (g.S.Source.given c.args.source.now) input) begins are stood
