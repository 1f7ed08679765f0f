use Rattle.std.proofs.Common.{sym, subst}
use Rattle.std.proofs.lemmas.Result.{err_from_is_err_and}
use Rattle.cx_replay.specs.Gathering.{IsReady}
use Rattle.cx_replay.specs.Replaying.{Progress, Settled}
use Rattle.cx_replay.proofs.Turning.{progress_settled, progress_stays, record_fails, turn_gathers, turn_more}
use Rattle.cx_replay.proofs.Turning.{turn_ready, turn_settled}
use Rattle.cx_replay.proofs.gather.turn.Goals as goal

pub returns-in_err-item-clause-turns : goal.returns-in_err-item-clause-turns
returns-in_err-item-clause-turns g c told input begins end whole so_far =
    let p = err_from_is_err_and c.from_residual.result c.from_residual.ensures.1 in
    let seen = g.R.Records.seen c.next_record.new.self in
    rw (p.1, p.2) (record_fails (g.R.Records.seen c.args.records.now).last seen.bytes
    (g.R.Records.has c.next_record.new.self (g.S.Source.given c.next_record.new.source) input end) end _ _
    c.in_err-item.field-0.0 so_far c.requires.last
    (c.in_err-item.ensures.reads told input begins end so_far.rest so_far.here))

pub returns-then-settle-clause-turns : goal.returns-then-settle-clause-turns
returns-then-settle-clause-turns g c told input begins end whole so_far =
    let seen = g.R.Records.seen c.next_record.new.self in
    let has = g.R.Records.has c.next_record.new.self (g.S.Source.given c.next_record.new.source) input end in
    let p : Progress = c.args.progress.now in
    let settled = c.if-settle.ensures.result in
    let is = progress_settled p c.settle.new.progress c.in_ok-item.item settled c.settle.ensures.progress in
    subst (λ (q : Progress). Settled whole c.args.due.now q seen.bytes has) (sym is)
    (turn_settled seen.bytes has p c.in_ok-item.item (g.R.Records.seen c.args.records.now).last seen.last so_far
    (c.in_ok-item.ensures.reads told input begins end so_far.rest so_far.here) (sym settled) c.requires.last
    c.in_ok-item.ensures.gave.next)

pub returns-then-settle-clause-sound : goal.returns-then-settle-clause-sound
returns-then-settle-clause-sound g c =
    let seen = g.R.Records.seen c.next_record.new.self in
    let p : Progress = c.args.progress.now in
    let settled = c.if-settle.ensures.result in
    let is = progress_settled p c.settle.new.progress c.in_ok-item.item settled c.settle.ensures.progress in
    subst (λ (q : Progress). IsReady q c.args.due.now seen) (sym is)
    (turn_ready p c.args.due.now (g.R.Records.seen c.args.records.now) seen c.in_ok-item.item c.requires
    c.in_ok-item.ensures.gave (sym settled)
    c.in_ok-item.ensures.live c.in_ok-item.ensures.pages)

pub returns-clause-turns : goal.returns-clause-turns
returns-clause-turns g c told input begins end whole so_far =
    let seen = g.R.Records.seen c.next_record.new.self in
    let has = g.R.Records.has c.next_record.new.self (g.S.Source.given c.next_record.new.source) input end in
    let p : Progress = c.args.progress.now in
    let going = c.if-settle.ensures.result in
    let stays = progress_stays p c.settle.new.progress c.in_ok-item.item going c.settle.ensures.progress in
    let more = turn_more seen.bytes has p c.in_ok-item.item (g.R.Records.seen c.args.records.now).last seen.last so_far
    (c.in_ok-item.ensures.reads told input begins end so_far.rest so_far.here) (sym going) c.requires.last
    c.in_ok-item.ensures.gave.next in
    rw (c.in_ok-take_in.ensures.due, c.take_in.ensures.progress, stays, c.record_bytes.ensures) more

pub returns-clause-sound : goal.returns-clause-sound
returns-clause-sound g c =
    let seen = g.R.Records.seen c.next_record.new.self in
    let p : Progress = c.args.progress.now in
    let going = c.if-settle.ensures.result in
    let stays = progress_stays p c.settle.new.progress c.in_ok-item.item going c.settle.ensures.progress in
    rw (c.in_ok-take_in.ensures.due, c.take_in.ensures.progress, stays, c.record_bytes.ensures)
    (turn_gathers p c.args.due.now (g.R.Records.seen c.args.records.now) seen c.in_ok-item.item _ c.requires
    c.in_ok-item.ensures.gave (sym going)
    c.in_ok-item.ensures.live c.in_ok-item.ensures.pages)
