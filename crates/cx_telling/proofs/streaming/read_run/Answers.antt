use Rattle.std.proofs.Common.{◌≡◌, sym, subst, true, Ok}
use Rattle.std.proofs.lemmas.Result.{err_from_is_err_and}
use Rattle.cx_codec.proofs.Following.{begins_on}
use Rattle.cx_codec.specs.Place.{Buffered}
use Rattle.cx_codec.specs.Reads.{over, place_in}
use Rattle.cx_log.specs.Reading.{start_of}
use Rattle.cx_commands.specs.Call.{input_behind}
use Rattle.cx_commands.specs.Opening.{begun_at}
use Rattle.cx_telling.proofs.Consuming.{log_is_early}
use Rattle.cx_commands.proofs.Doings.{refused_opening}
use Rattle.cx_telling.proofs.streaming.read_run.Goals as goal

pub returns-in_err-opening-clause-does : goal.returns-in_err-opening-clause-does
returns-in_err-opening-clause-does g c told input begins are =
    let p = err_from_is_err_and c.from_residual.result c.from_residual.ensures.1 in
    rw (p.1, p.2) (refused_opening true _ _ _ _ _ _ _ c.in_err-opening.field-0.0
    ((c.in_err-opening.ensures.opens told).reads.reads input begins))

pub returns-clause-does : goal.returns-clause-does
returns-clause-does g c told input begins are =
    let opened = c.in_ok-opening.ensures.opens told in
    let first = begins_on (c.run_opened.ensures.follows opened.reads.follows.told).grows begins in
    let read = opened.reads.reads input first in
    let stood = subst (λ (b : Buffered). begun_at (start_of (input_behind (g.S.Source.given c.args.source.now) input))
    ≡ Ok (
      record { header = c.in_ok-opening.opening.reader.header; memory = c.in_ok-opening.opening.machine.memory },
      place_in (over b (g.S.Source.left c.open.new.source) (g.S.Source.given c.open.new.source)) input,
    )) (sym opened.keeps) read in
    c.run_opened.ensures.does opened.reads.follows.told input
    (input_behind (g.S.Source.given c.args.source.now) input) begins are stood

pub returns-in_err-opening-clause-spent : goal.returns-in_err-opening-clause-spent
returns-in_err-opening-clause-spent g c told =
    let p = err_from_is_err_and c.from_residual.result c.from_residual.ensures.1 in
    rw (p.1, p.2) (λ j. absurd (log_is_early c.in_err-opening.field-0.0 j))
