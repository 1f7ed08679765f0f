use Rattle.std.proofs.Common.{arith, sym}
use Rattle.std.proofs.lemmas.Result.{err_from_is_err_and}
use Rattle.cx_record.specs.declared.fault.RecordFault.TheVariants.{WriteFault}
use Rattle.cx_record.proofs.Played.{answers_fault, answers_refused, cause_done, cause_of, cause_then, end_refused, is_done}
use Rattle.cx_record.proofs.Played.{put_first, refused_after, refused_early}
use Rattle.cx_record.proofs.recorder.record.Goals as goal

pub returns-in_err-writer-clause-answers : goal.returns-in_err-writer-clause-answers
returns-in_err-writer-clause-answers g c =
    let p = err_from_is_err_and c.from_residual.result c.from_residual.ensures.1 in
    let answers = g.W.World.answers c.args.world.now in
    let base = g.T.Sink.held c.args.sink.now in
    rw (p.1, p.2) (answers_refused c.args.image c.args.steps answers answers base (g.T.Sink.held c.start.new.sink) _
    (refused_early c.args.image c.args.steps answers base (g.T.Sink.held c.start.new.sink) c.requires.rules
    c.requires.some
    c.in_err-writer.ensures.starts.refused))

pub returns-in_err-live-clause-answers : goal.returns-in_err-live-clause-answers
returns-in_err-live-clause-answers g c =
    let p = err_from_is_err_and c.from_residual-in_err-live.result c.from_residual-in_err-live.ensures.1 in
    let answers = g.W.World.answers c.args.world.now in
    let base = g.T.Sink.held c.args.sink.now in
    rw (p.1, p.2) (refused_after c.args.image c.args.steps answers base (g.T.Sink.held c.start.new.sink)
    c.in_ok-writer.writer.output.bytes c.requires.rules c.requires.some c.in_ok-writer.ensures.starts.stands)

pub returns-in_err-end-clause-answers : goal.returns-in_err-end-clause-answers
returns-in_err-end-clause-answers g c =
    let p = err_from_is_err_and c.from_residual-in_err-end.result c.from_residual-in_err-end.ensures.1 in
    let answers = g.W.World.answers c.args.world.now in
    let base = g.T.Sink.held c.args.sink.now in
    let put = put_first c.args.image answers base (g.T.Sink.held c.start.new.sink) c.in_ok-writer.writer
    c.in_ok-live.live.live c.in_ok-live.ensures.live c.in_ok-writer.ensures.starts.stands
    c.in_ok-writer.ensures.behind in
    rw (p.1, p.2) (answers_fault c.args.image c.args.steps answers (g.W.World.answers c.play.new.world) base
    (g.T.Sink.held c.play.new.sink) c.play.new.writer c.play.new.live.live _
    (c.in_err-end.ensures.plays c.args.image answers base c.requires.rules (sym c.in_ok-live.ensures.split) put))

pub returns-in_err-end-clause-sink : goal.returns-in_err-end-clause-sink
returns-in_err-end-clause-sink g c =
    let p = err_from_is_err_and c.from_residual-in_err-end.result c.from_residual-in_err-end.ensures.1 in
    let first = c.in_ok-writer.ensures.starts.cause in
    let then_is = c.in_err-end.ensures.sink in
    rw (p.1, p.2) (record {
      later = omega (arith, first.later, then_is.later);
      fits = λ small. then_is.fits (first.fits small);
      failed = λ is. let rose = then_is.failed cc in omega (arith, rose, first.later);
    })

pub returns-in_err-end-2-clause-answers : goal.returns-in_err-end-2-clause-answers
returns-in_err-end-2-clause-answers g c =
    let p = err_from_is_err_and c.from_residual-in_err-end-2.result c.from_residual-in_err-end-2.ensures.1 in
    let answers = g.W.World.answers c.args.world.now in
    let base = g.T.Sink.held c.args.sink.now in
    let put = put_first c.args.image answers base (g.T.Sink.held c.start.new.sink) c.in_ok-writer.writer
    c.in_ok-live.live.live c.in_ok-live.ensures.live c.in_ok-writer.ensures.starts.stands
    c.in_ok-writer.ensures.behind in
    let plays = c.in_ok-end.ensures.plays c.args.image answers base c.requires.rules (sym c.in_ok-live.ensures.split) put
    in
    rw (p.1, p.2) (answers_refused c.args.image c.args.steps answers (g.W.World.answers c.play.new.world) base
    (g.T.Sink.held c.end.new.sink) _
    (end_refused c.args.image c.args.steps c.in_ok-end.end answers (g.W.World.answers c.play.new.world) base
    (g.T.Sink.held c.play.new.sink) c.play.new.writer c.play.new.live.live c.requires.rules c.in_ok-end.ensures.some
    c.in_ok-end.ensures.most c.requires.most plays (g.T.Sink.held c.end.new.sink) c.in_err-end-2.ensures.refused))

pub returns-in_err-end-2-clause-sink : goal.returns-in_err-end-2-clause-sink
returns-in_err-end-2-clause-sink g c =
    let p = err_from_is_err_and c.from_residual-in_err-end-2.result c.from_residual-in_err-end-2.ensures.1 in
    let first = c.in_ok-writer.ensures.starts.cause in
    let second = c.in_ok-end.ensures.sink in
    let last = c.in_err-end-2.ensures.cause in
    rw (p.1, p.2) (cause_then WriteFault (g.T.Sink.faults c.args.sink.now) (g.T.Sink.faults c.play.new.sink)
    (g.T.Sink.faults c.end.new.sink) _ (omega (arith, first.later, second.later))
    (λ small. second.fits (first.fits small))
    (cause_of (g.T.Sink.faults c.play.new.sink) (g.T.Sink.faults c.end.new.sink) _ last))

pub returns-clause-answers : goal.returns-clause-answers
returns-clause-answers g c =
    let answers = g.W.World.answers c.args.world.now in
    let base = g.T.Sink.held c.args.sink.now in
    let put = put_first c.args.image answers base (g.T.Sink.held c.start.new.sink) c.in_ok-writer.writer
    c.in_ok-live.live.live c.in_ok-live.ensures.live c.in_ok-writer.ensures.starts.stands
    c.in_ok-writer.ensures.behind in
    let plays = c.in_ok-end.ensures.plays c.args.image answers base c.requires.rules (sym c.in_ok-live.ensures.split) put
    in
    is_done c.args.image c.args.steps c.in_ok-end.end answers (g.W.World.answers c.play.new.world) base
    (g.T.Sink.held c.play.new.sink) c.play.new.writer c.play.new.live.live c.requires.rules c.in_ok-end.ensures.some
    c.in_ok-end.ensures.most c.requires.most plays (g.T.Sink.held c.end.new.sink) c.in_ok-end-2.ensures.written

pub returns-clause-sink : goal.returns-clause-sink
returns-clause-sink g c =
    let first = c.in_ok-writer.ensures.starts.cause in
    let second = c.in_ok-end.ensures.sink in
    let last = c.in_ok-end-2.ensures.cause in
    cause_then WriteFault (g.T.Sink.faults c.args.sink.now) (g.T.Sink.faults c.play.new.sink)
    (g.T.Sink.faults c.end.new.sink) _ (omega (arith, first.later, second.later))
    (λ small. second.fits (first.fits small))
    (cause_done (g.T.Sink.faults c.play.new.sink) (g.T.Sink.faults c.end.new.sink) _ _ last)
