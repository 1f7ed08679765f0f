use Rattle.cx_commands.specs.Call.{input_behind}
use Rattle.cx_commands.specs.Window.{window_text}
use Rattle.cx_commands.proofs.Answering.{nothing_written, slice_text, writes_all, writes_out}
use Rattle.cx_top.proofs.window.window.Goals as goal

pub returns-clause-answer : goal.returns-clause-answer
returns-clause-answer g c told input begins are =
    let a = c.args.span.from in
    let b = c.args.span.to in
    let bytes = input_behind (g.S.Source.given c.args.source.now) input in
    rw c.from.ensures (writes_out (window_text a b) a b bytes _ _ (g.T.Sink.held c.args.sink.now)
    (g.T.Sink.held c.write.new.sink) c.in-Ok.slice c.in-Err-write.fault
    (c.in-Ok.ensures.reads told (window_text a b) input begins are)
    (λ cut. rw (slice_text a b bytes c.in-Ok.slice cut) c.in-Err-write.ensures.refused)).0

pub returns-clause-leaves : goal.returns-clause-leaves
returns-clause-leaves g c told input begins are =
    let a = c.args.span.from in
    let b = c.args.span.to in
    let bytes = input_behind (g.S.Source.given c.args.source.now) input in
    rw c.from.ensures (writes_out (window_text a b) a b bytes _ _ (g.T.Sink.held c.args.sink.now)
    (g.T.Sink.held c.write.new.sink) c.in-Ok.slice c.in-Err-write.fault
    (c.in-Ok.ensures.reads told (window_text a b) input begins are)
    (λ cut. rw (slice_text a b bytes c.in-Ok.slice cut) c.in-Err-write.ensures.refused)).1

pub returns-in-Ok-write-clause-answer : goal.returns-in-Ok-write-clause-answer
returns-in-Ok-write-clause-answer g c told input begins are =
    let a = c.args.span.from in
    let b = c.args.span.to in
    let bytes = input_behind (g.S.Source.given c.args.source.now) input in
    (writes_all (window_text a b) a b bytes _ (Unit {0}) (g.T.Sink.held c.args.sink.now)
    (g.T.Sink.held c.write.new.sink) c.in-Ok.slice (c.in-Ok.ensures.reads told (window_text a b) input begins are)
    (λ cut. rw (slice_text a b bytes c.in-Ok.slice cut) c.in-Ok-write.ensures.written)).0

pub returns-in-Ok-write-clause-leaves : goal.returns-in-Ok-write-clause-leaves
returns-in-Ok-write-clause-leaves g c told input begins are =
    let a = c.args.span.from in
    let b = c.args.span.to in
    let bytes = input_behind (g.S.Source.given c.args.source.now) input in
    (writes_all (window_text a b) a b bytes _ (Unit {0}) (g.T.Sink.held c.args.sink.now)
    (g.T.Sink.held c.write.new.sink) c.in-Ok.slice (c.in-Ok.ensures.reads told (window_text a b) input begins are)
    (λ cut. rw (slice_text a b bytes c.in-Ok.slice cut) c.in-Ok-write.ensures.written)).1

pub returns-in-Err-clause-leaves : goal.returns-in-Err-clause-leaves
returns-in-Err-clause-leaves g c told input begins are =
    nothing_written (window_text c.args.span.from c.args.span.to) c.args.span.from c.args.span.to _ _ _ _
    c.in-Err.status c.in-Err.ensures.kind

pub returns-in-Err-clause-answer : goal.returns-in-Err-clause-answer
returns-in-Err-clause-answer g c told input begins are =
    c.in-Err.ensures.reads told (window_text c.args.span.from c.args.span.to) input begins are
