use Rattle.std.proofs.Common.{◌≡◌, arith}
use Rattle.std.proofs.lemmas.Result.{err_from_is_err_and}
use Rattle.cx_replay.proofs.Reading.{between}
use Rattle.cx_replay.proofs.Settling.{TookWaiting, end_comes, end_fails, gathering_waiting, gathers_waiting}
use Rattle.cx_replay.proofs.gather.settle_next.Goals as goal

pub returns-then-progress-clause-settles : goal.returns-then-progress-clause-settles
returns-then-progress-clause-settles g c told input begins end whole read =
    rw c.clear.ensures (between read c.if-progress.true)

pub returns-in_err-see_end-clause-settles : goal.returns-in_err-see_end-clause-settles
returns-in_err-see_end-clause-settles g c told input begins end whole read =
    let p = err_from_is_err_and c.from_residual.result c.from_residual.ensures.1 in
    let at : c.args.progress.now.at ≡ c.args.progress.now.upto = omega (arith, c.if-progress.false, c.requires.within)
    in
    rw (p.1, p.2) (end_fails (g.R.Records.has c.see_end.new.self (g.S.Source.given c.see_end.new.source) input end) end
    _ _ c.in_err-see_end.field-0.0
    read c.if-progress-2.true at (c.in_err-see_end.ensures.sees told input begins end read.rest read.here))

pub returns-then-progress-2-clause-settles : goal.returns-then-progress-2-clause-settles
returns-then-progress-2-clause-settles g c told input begins end whole read =
    let at : c.args.progress.now.at ≡ c.args.progress.now.upto = omega (arith, c.if-progress.false, c.requires.within)
    in
    end_comes _ (g.R.Records.has c.see_end.new.self (g.S.Source.given c.see_end.new.source) input end) _
    (input ≡ g.S.Source.given c.see_end.new.source) tt
    read c.if-progress-2.true at c.in_ok-see_end.ensures.bytes (c.in_ok-see_end.ensures.sees told input begins end
    read.rest read.here)

pub gather-requires : goal.gather-requires
gather-requires g c =
    let at : c.args.progress.now.at ≡ c.args.progress.now.upto = omega (arith, c.if-progress.false, c.requires.within)
    in
    let took : TookWaiting c.args.progress.now c.take_waiting.new.progress (g.R.Records.seen c.args.records.now).bytes
    c.take_waiting.new.due
    = record {
      none = rw c.clear.ensures at c.in_ok-take_waiting.ensures.none;
      some =
          rw c.clear.ensures at c.in_ok-take_waiting.ensures.some;
    } in
    gathering_waiting c.args.progress.now c.take_waiting.new.progress c.take_waiting.new.due
    (g.R.Records.seen c.args.records.now) c.requires c.if-progress-2.false at took

pub returns-in_err-gather-clause-settles : goal.returns-in_err-gather-clause-settles
returns-in_err-gather-clause-settles g c told input begins end whole read =
    let p = err_from_is_err_and c.from_residual-in_err-gather.result c.from_residual-in_err-gather.ensures.1 in
    let at : c.args.progress.now.at ≡ c.args.progress.now.upto = omega (arith, c.if-progress.false, c.requires.within)
    in
    let took : TookWaiting c.args.progress.now c.take_waiting.new.progress (g.R.Records.seen c.args.records.now).bytes
    c.take_waiting.new.due
    = record {
      none = rw c.clear.ensures at c.in_ok-take_waiting.ensures.none;
      some =
          rw c.clear.ensures at c.in_ok-take_waiting.ensures.some;
    } in
    rw (p.1, p.2) (c.in_err-gather.ensures.gathers told input begins end whole
    (gathers_waiting c.args.progress.now c.take_waiting.new.progress c.take_waiting.new.due read c.if-progress-2.false
    at took))

pub returns-clause-settles : goal.returns-clause-settles
returns-clause-settles g c told input begins end whole read =
    let at : c.args.progress.now.at ≡ c.args.progress.now.upto = omega (arith, c.if-progress.false, c.requires.within)
    in
    let took : TookWaiting c.args.progress.now c.take_waiting.new.progress (g.R.Records.seen c.args.records.now).bytes
    c.take_waiting.new.due
    = record {
      none = rw c.clear.ensures at c.in_ok-take_waiting.ensures.none;
      some =
          rw c.clear.ensures at c.in_ok-take_waiting.ensures.some;
    } in
    c.in_ok-gather.ensures.gathers told input begins end whole
    (gathers_waiting c.args.progress.now c.take_waiting.new.progress c.take_waiting.new.due read c.if-progress-2.false
    at took)
