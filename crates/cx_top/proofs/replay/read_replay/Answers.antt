use Rattle.std.proofs.Common.{◌≡◌}
use Rattle.std.proofs.lemmas.Result.{err_from_is_err_and}
use Rattle.cx_codec.proofs.Following.{begins_on, end_stays}
use Rattle.cx_codec.specs.Place.{Place}
use Rattle.cx_codec.specs.Reads.{over, place_in}
use Rattle.cx_replay.proofs.Giving.{gave_on}
use Rattle.cx_replay.specs.Records.{MayBeWhole}
use Rattle.cx_commands.specs.Call.{input_behind}
use Rattle.cx_telling.proofs.Consuming.{gave_of_follows, log_is_early}
use Rattle.cx_top.proofs.Replayed.{
  all_of_text,
  behind_recording,
  bytes_of_kind,
  refuses_magic,
  replays_calls,
  replays_process,
  replays_recording,
}
use Rattle.cx_top.proofs.replay.read_replay.Goals as goal

pub returns-in_err-magic-clause-does : goal.returns-in_err-magic-clause-does
returns-in_err-magic-clause-does g c told input begins are =
    let p = err_from_is_err_and c.from_residual-in_err-magic.result c.from_residual-in_err-magic.ensures.1 in
    let magic = rw c.in_ok-bytes.ensures at (c.in_err-magic.ensures.reads told) in
    rw (p.1, p.2) (refuses_magic _ _ _ _ c.in_err-magic.field-0.0 (magic.reads input begins))

pub returns-in-Recording-clause-follows : goal.returns-in-Recording-clause-follows
returns-in-Recording-clause-follows g c told =
    let magic = c.in_ok-magic.ensures.reads told in
    gave_on (gave_of_follows magic.follows) (c.replay_recording.ensures.follows magic.follows.told)

pub returns-in-Recording-clause-does : goal.returns-in-Recording-clause-does
returns-in-Recording-clause-does g c told input begins are =
    let magic = rw (c.in_ok-bytes.ensures, c.in-Recording.is) at (c.in_ok-magic.ensures.reads told) in
    let first = begins_on (c.replay_recording.ensures.follows magic.follows.told).grows begins in
    let kind = magic.reads input first in
    let left = g.S.Source.left c.replay_recording.new.source in
    let given = g.S.Source.given c.replay_recording.new.source in
    replays_recording (input_behind (g.S.Source.given c.args.source.now) input) _ (MayBeWhole left given input)
    (input ≡ given) (g.T.Sink.held c.args.sink.now) (g.T.Sink.held c.replay_recording.new.sink)
    c.replay_recording.result kind (c.replay_recording.ensures.does magic.follows.told input _ begins are
    (behind_recording _ _ kind) (end_stays magic.follows input first))

pub returns-in-Calls-clause-follows : goal.returns-in-Calls-clause-follows
returns-in-Calls-clause-follows g c told =
    let magic = c.in_ok-magic.ensures.reads told in
    gave_on (gave_of_follows magic.follows) (c.retell-in-Calls.ensures.follows magic.follows.told)

pub returns-in-Calls-clause-does : goal.returns-in-Calls-clause-does
returns-in-Calls-clause-does g c told input begins are =
    let magic = rw (c.in_ok-bytes.ensures, c.in-Calls.is) at (c.in_ok-magic.ensures.reads told) in
    let first = begins_on (c.retell-in-Calls.ensures.follows magic.follows.told).grows begins in
    let kind = magic.reads input first in
    let text = input_behind (g.S.Source.given c.args.source.now) input in
    let mid : Place = place_in (over c.read_magic.new.bytes (g.S.Source.left c.read_magic.new.source)
    (g.S.Source.given c.read_magic.new.source)) input in
    replays_calls text mid _ _ _ _ c.retell-in-Calls.result kind (c.retell-in-Calls.ensures.does magic.follows.told
    input text begins (bytes_of_kind text _ mid are kind) (all_of_text text mid (end_stays magic.follows input first)))

pub returns-in-Process-clause-follows : goal.returns-in-Process-clause-follows
returns-in-Process-clause-follows g c told =
    let magic = c.in_ok-magic.ensures.reads told in
    gave_on (gave_of_follows magic.follows) (c.retell.ensures.follows magic.follows.told)

pub returns-in-Process-clause-does : goal.returns-in-Process-clause-does
returns-in-Process-clause-does g c told input begins are =
    let magic = rw (c.in_ok-bytes.ensures, c.in-Process.is) at (c.in_ok-magic.ensures.reads told) in
    let first = begins_on (c.retell.ensures.follows magic.follows.told).grows begins in
    let kind = magic.reads input first in
    let text = input_behind (g.S.Source.given c.args.source.now) input in
    let mid : Place = place_in (over c.read_magic.new.bytes (g.S.Source.left c.read_magic.new.source)
    (g.S.Source.given c.read_magic.new.source)) input in
    replays_process text mid _ _ _ _ c.retell.result kind (c.retell.ensures.does magic.follows.told input text begins
    (bytes_of_kind text _ mid are kind) (all_of_text text mid (end_stays magic.follows input first)))

pub returns-in_err-magic-clause-spent : goal.returns-in_err-magic-clause-spent
returns-in_err-magic-clause-spent g c told =
    let p = err_from_is_err_and c.from_residual-in_err-magic.result c.from_residual-in_err-magic.ensures.1 in
    rw (p.1, p.2) (λ j. absurd (log_is_early c.in_err-magic.field-0.0 j))

pub returns-in-Recording-clause-spent : goal.returns-in-Recording-clause-spent
returns-in-Recording-clause-spent g c told =
    c.replay_recording.ensures.spent (c.in_ok-magic.ensures.reads told).follows.told

pub returns-in-Process-clause-spent : goal.returns-in-Process-clause-spent
returns-in-Process-clause-spent g c told = c.retell.ensures.spent (c.in_ok-magic.ensures.reads told).follows.told

pub returns-in-Calls-clause-spent : goal.returns-in-Calls-clause-spent
returns-in-Calls-clause-spent g c told =
    c.retell-in-Calls.ensures.spent (c.in_ok-magic.ensures.reads told).follows.told
