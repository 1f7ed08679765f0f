use Rattle.std.proofs.Common.{◌∙◌, [], None, ap, false, refl}
use Rattle.std.proofs.lemmas.Result.{err_from_is_err_and}
use Rattle.cx_alone.proofs.Inputs.{may_be_before}
use Rattle.cx_codec.specs.Place.{end_of}
use Rattle.cx_codec.specs.Reads.{over, place_in}
use Rattle.cx_callfmt.specs.Engine.{CallReading}
use Rattle.cx_callfmt.specs.Rules.{calls}
use Rattle.cx_callfmt.specs.Scan.{scan_behind_head}
use Rattle.cx_observe.specs.User.{user}
use Rattle.cx_placing.specs.Called.{handed}
use Rattle.cx_slicefmt.specs.Reading.{head_at}
use Rattle.cx_slices.specs.Items.{start}
use Rattle.cx_call_alone.specs.Ahead.{place_called}
use Rattle.cx_call_alone.specs.Settled.{started}
use Rattle.cx_call_alone.specs.Standing.{head_held}
use Rattle.cx_call_alone.proofs.Answering.{refuses}
use Rattle.cx_call_alone.proofs.Opening.{
  before_first,
  first_read_by,
  first_refused_by,
  gave_on,
  head_fails,
  head_goes,
  head_read,
  head_refused,
  not_broken,
  stands_first,
  stands_new,
}
use Rattle.cx_call_alone.proofs.alone.CallAlone.open_calls.Goals as goal

pub returns-in-Err-clause-opens : goal.returns-in-Err-clause-opens
returns-in-Err-clause-opens g c = λ told input may are.
    let fails = head_fails c.in-Err.fault c.replay_fault.result _ _ c.replay_fault.ensures
    (rw c.open-reader.ensures at (c.in-Err.ensures.reads told)) in
    refuses (scan_behind_head (head_at calls false
    (place_in (over c.args.bytes None (g.S.Source.given c.args.source.now)) input)))
    (end_of (place_in (over c.args.bytes None (g.S.Source.given c.args.source.now)) input)) [] 0
    (started user (scan_behind_head (head_at calls false
    (place_in (over c.args.bytes None (g.S.Source.given c.args.source.now)) input)))) _ c.replay_fault.result
    (before_first (scan_behind_head (head_at calls false
    (place_in (over c.args.bytes None (g.S.Source.given c.args.source.now)) input))))
    (head_refused c.replay_fault.result _ _ input fails
    (not_broken c.in-Err.fault c.replay_fault.result c.replay_fault.ensures) may)

pub returns-in_err-head-clause-opens : goal.returns-in_err-head-clause-opens
returns-in_err-head-clause-opens g c = λ told input may are.
    let p = err_from_is_err_and c.from_residual.result c.from_residual.ensures.1 in
    let first = rw c.open-reader.ensures at (c.in-Ok.ensures.reads told) in
    let fails = head_goes c.in-Ok.found _ _ _ _ first (c.in_err-head.ensures.reads first.follows.told) in
    rw (p.1, p.2) (refuses (scan_behind_head (head_at calls false
    (place_in (over c.args.bytes None (g.S.Source.given c.args.source.now)) input)))
    (end_of (place_in (over c.args.bytes None (g.S.Source.given c.args.source.now)) input)) [] 0
    (started user (scan_behind_head (head_at calls false
    (place_in (over c.args.bytes None (g.S.Source.given c.args.source.now)) input)))) _ c.in_err-head.field-0.0
    (before_first (scan_behind_head (head_at calls false
    (place_in (over c.args.bytes None (g.S.Source.given c.args.source.now)) input))))
    (head_refused c.in_err-head.field-0.0 _ _ input fails c.in_err-head.ensures.kind may))

pub returns-in_err-upto-clause-follows : goal.returns-in_err-upto-clause-follows
returns-in_err-upto-clause-follows g c = λ told.
    let first = rw c.open-reader.ensures at (c.in-Ok.ensures.reads told) in
    let head = head_goes c.in-Ok.found _ _ _ _ first (c.in_ok-head.ensures.reads first.follows.told) in
    gave_on _ _ _ _ head.follows (c.in_err-upto.ensures.follows head.follows.told)

pub returns-in_err-upto-clause-opens : goal.returns-in_err-upto-clause-opens
returns-in_err-upto-clause-opens g c = λ told input may are.
    let p = err_from_is_err_and c.from_residual-in_err-upto.result c.from_residual-in_err-upto.ensures.1 in
    let first = rw c.open-reader.ensures at (c.in-Ok.ensures.reads told) in
    let head = head_goes c.in-Ok.found _ _ _ _ first (c.in_ok-head.ensures.reads first.follows.told) in
    let behind = c.in_ok-head.ensures.behind ∙ (c.in-Ok.ensures.behind
    ∙ ap (λ (r : CallReading). r.behind) c.open-reader.ensures) in
    let before = may_be_before (g.S.Source.left c.read_head.new.source) (g.S.Source.left c.read_record.new.source)
    (g.S.Source.given c.read_head.new.source) (g.S.Source.given c.read_record.new.source) input
    (c.in_err-upto.ensures.follows head.follows.told) may in
    let read = head_read c.in_ok-head.head _ _ input head are before in
    rw (p.1, p.2) (refuses (scan_behind_head (head_at calls false
    (place_in (over c.args.bytes None (g.S.Source.given c.args.source.now)) input)))
    (end_of (place_in (over c.args.bytes None (g.S.Source.given c.args.source.now)) input)) [] 0
    (handed (head_held c.in_ok-head.head) (start user)) _ c.in_err-upto.field-0.0
    (stands_first (head_held c.in_ok-head.head) (scan_behind_head (head_at calls false
    (place_in (over c.args.bytes None (g.S.Source.given c.args.source.now)) input)))
    (place_called c.read_head.new.reader (g.S.Source.given c.read_head.new.source) input) read.scan)
    (first_refused_by c.read_head.new.reader.behind (head_held c.in_ok-head.head) (scan_behind_head (head_at calls false
    (place_in (over c.args.bytes None (g.S.Source.given c.args.source.now)) input)))
    (place_called c.read_head.new.reader (g.S.Source.given c.read_head.new.source) input)
    (place_called c.read_record.new.reader (g.S.Source.given c.read_record.new.source) input)
    (end_of (place_in (over c.args.bytes None (g.S.Source.given c.args.source.now)) input))
    (g.S.Source.left c.read_record.new.source) _
    c.in_err-upto.field-0.0 behind read.scan read.ends
    (c.in_err-upto.ensures.reads head.follows.told input may read.bytes)))

pub returns-clause-opens : goal.returns-clause-opens
returns-clause-opens g c = λ told input may are.
    let first = rw c.open-reader.ensures at (c.in-Ok.ensures.reads told) in
    let head = head_goes c.in-Ok.found _ _ _ _ first (c.in_ok-head.ensures.reads first.follows.told) in
    let behind = c.in_ok-head.ensures.behind ∙ (c.in-Ok.ensures.behind
    ∙ ap (λ (r : CallReading). r.behind) c.open-reader.ensures) in
    let before = may_be_before (g.S.Source.left c.read_head.new.source) (g.S.Source.left c.read_record.new.source)
    (g.S.Source.given c.read_head.new.source) (g.S.Source.given c.read_record.new.source) input
    (c.in_ok-upto.ensures.follows head.follows.told) may in
    let read = head_read c.in_ok-head.head _ _ input head are before in
    record {
      s = handed (head_held c.in_ok-head.head) (start user);
      is = stands_new c.in_ok-head.head c.new-called.result c.hand.new.self (start user) c.new-called.ensures
          (c.in_ok-hand.ensures read.is.rises);
      run = stands_first (head_held c.in_ok-head.head) (scan_behind_head (head_at calls false
          (place_in (over c.args.bytes None (g.S.Source.given c.args.source.now)) input)))
          (place_called c.read_head.new.reader (g.S.Source.given c.read_head.new.source) input) read.scan;
      ahead = first_read_by c.read_head.new.reader.behind (head_held c.in_ok-head.head)
          (scan_behind_head (head_at calls false
          (place_in (over c.args.bytes None (g.S.Source.given c.args.source.now)) input)))
          (place_called c.read_head.new.reader (g.S.Source.given c.read_head.new.source) input)
          (place_called c.read_record.new.reader (g.S.Source.given c.read_record.new.source) input)
          (end_of (place_in (over c.args.bytes None (g.S.Source.given c.args.source.now)) input)) c.in_ok-upto.upto
          c.in_ok-upto.waiting
          (g.S.Source.left c.read_record.new.source) behind read.scan read.ends
          (c.in_ok-upto.ensures.stays head.follows.told input may)
          (c.in_ok-upto.ensures.reads head.follows.told input may read.bytes);
    }
