use Rattle.std.proofs.Common.{◌≡◌, ◌∙◌, sym, subst, true, Ok}
use Rattle.std.proofs.lemmas.Result.{err_from_is_err_and}
use Rattle.cx_codec.proofs.Following.{begins_on}
use Rattle.cx_codec.specs.Place.{Buffered}
use Rattle.cx_codec.specs.Reads.{over, place_in}
use Rattle.cx_commands.specs.Opening.{behind_magic_at}
use Rattle.cx_commands.specs.Streaming.{settled_by}
use Rattle.cx_commands.specs.Trace.{line_text}
use Rattle.cx_telling.proofs.Consuming.{gave_of_follows, log_is_early}
use Rattle.cx_commands.proofs.Doings.{refused_opening}
use Rattle.cx_replay.proofs.Giving.{gave_on}
use Rattle.cx_top.proofs.replay.replay_recording.Goals as goal

pub returns-in_err-opening-clause-does : goal.returns-in_err-opening-clause-does
returns-in_err-opening-clause-does g c told input text begins are same ends =
    let p = err_from_is_err_and c.from_residual.result c.from_residual.ensures.1 in
    rw (p.1, p.2) (refused_opening true (λ o s. true) (settled_by line_text) (settled_by line_text) text _ _ _
    c.in_err-opening.field-0.0 (rw (same, ends) ((c.in_err-opening.ensures.opens told).reads.reads input begins)))

pub returns-in_err-opening-clause-follows : goal.returns-in_err-opening-clause-follows
returns-in_err-opening-clause-follows g c told = gave_of_follows (c.in_err-opening.ensures.opens told).reads.follows

pub returns-in_err-opening-clause-spent : goal.returns-in_err-opening-clause-spent
returns-in_err-opening-clause-spent g c told =
    let p = err_from_is_err_and c.from_residual.result c.from_residual.ensures.1 in
    rw (p.1, p.2) (λ j. absurd (log_is_early c.in_err-opening.field-0.0 j))

pub returns-clause-spent : goal.returns-clause-spent
returns-clause-spent g c told = c.run_opened.ensures.spent (c.in_ok-opening.ensures.opens told).reads.follows.told

pub returns-clause-follows : goal.returns-clause-follows
returns-clause-follows g c told =
    let opened = (c.in_ok-opening.ensures.opens told).reads.follows in
    gave_on (gave_of_follows opened) (c.run_opened.ensures.follows opened.told)

pub returns-clause-does : goal.returns-clause-does
returns-clause-does g c told input text begins are same ends =
    let opened = c.in_ok-opening.ensures.opens told in
    let first = begins_on (c.run_opened.ensures.follows opened.reads.follows.told).grows begins in
    let read = opened.reads.reads input first in
    let stood = subst (λ (b : Buffered). behind_magic_at
    (place_in (over c.args.bytes (g.S.Source.left c.args.source.now) (g.S.Source.given c.args.source.now)) input)
    ≡ Ok (
      record { header = c.in_ok-opening.opening.reader.header; memory = c.in_ok-opening.opening.machine.memory },
      place_in (over b (g.S.Source.left c.open_behind.new.source) (g.S.Source.given c.open_behind.new.source)) input,
    )) (sym opened.keeps) read in
    c.run_opened.ensures.does opened.reads.follows.told input text begins are (same ∙ stood)
