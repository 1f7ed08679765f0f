use Rattle.cx_commands.specs.Call.{input_behind}
use Rattle.cx_commands.specs.Opening.{scan_from}
use Rattle.cx_commands.specs.TraceWindow.{window_lines}
use Rattle.cx_commands.proofs.Answering.{nothing_written, writes_all, writes_out}
use Rattle.cx_commands.proofs.Judging.{is_judged}
use Rattle.cx_top.proofs.trace_window.trace_window.Goals as goal

pub returns-in-Err-put_lines-clause-answer : goal.returns-in-Err-put_lines-clause-answer
returns-in-Err-put_lines-clause-answer g c told input begins are =
    let a = c.args.span.from in
    let b = c.args.span.to in
    let bytes = input_behind (g.S.Source.given c.args.source.now) input in
    rw c.from.ensures (writes_out (window_lines a b) a b bytes _ _ (g.T.Sink.held c.args.sink.now)
    (g.T.Sink.held c.put_lines.new.sink) c.in-Ok.slice c.in-Err-put_lines.fault
    (c.in-Ok.ensures.reads told (window_lines a b) input begins are)
    (λ cut. c.in-Err-put_lines.ensures.puts cut.opened (scan_from cut.opened cut.place) a b
    (is_judged bytes cut.opened cut.place are cut.begun) cut.cuts)).0

pub returns-in-Err-put_lines-clause-leaves : goal.returns-in-Err-put_lines-clause-leaves
returns-in-Err-put_lines-clause-leaves g c told input begins are =
    let a = c.args.span.from in
    let b = c.args.span.to in
    let bytes = input_behind (g.S.Source.given c.args.source.now) input in
    rw c.from.ensures (writes_out (window_lines a b) a b bytes _ _ (g.T.Sink.held c.args.sink.now)
    (g.T.Sink.held c.put_lines.new.sink) c.in-Ok.slice c.in-Err-put_lines.fault
    (c.in-Ok.ensures.reads told (window_lines a b) input begins are)
    (λ cut. c.in-Err-put_lines.ensures.puts cut.opened (scan_from cut.opened cut.place) a b
    (is_judged bytes cut.opened cut.place are cut.begun) cut.cuts)).1

pub returns-in-Ok-put_lines-clause-answer : goal.returns-in-Ok-put_lines-clause-answer
returns-in-Ok-put_lines-clause-answer g c told input begins are =
    let a = c.args.span.from in
    let b = c.args.span.to in
    let bytes = input_behind (g.S.Source.given c.args.source.now) input in
    (writes_all (window_lines a b) a b bytes _ (Unit {0}) (g.T.Sink.held c.args.sink.now)
    (g.T.Sink.held c.put_lines.new.sink) c.in-Ok.slice
    (c.in-Ok.ensures.reads told (window_lines a b) input begins are)
    (λ cut. c.in-Ok-put_lines.ensures.puts cut.opened (scan_from cut.opened cut.place) a b
    (is_judged bytes cut.opened cut.place are cut.begun) cut.cuts)).0

pub returns-in-Ok-put_lines-clause-leaves : goal.returns-in-Ok-put_lines-clause-leaves
returns-in-Ok-put_lines-clause-leaves g c told input begins are =
    let a = c.args.span.from in
    let b = c.args.span.to in
    let bytes = input_behind (g.S.Source.given c.args.source.now) input in
    (writes_all (window_lines a b) a b bytes _ (Unit {0}) (g.T.Sink.held c.args.sink.now)
    (g.T.Sink.held c.put_lines.new.sink) c.in-Ok.slice
    (c.in-Ok.ensures.reads told (window_lines a b) input begins are)
    (λ cut. c.in-Ok-put_lines.ensures.puts cut.opened (scan_from cut.opened cut.place) a b
    (is_judged bytes cut.opened cut.place are cut.begun) cut.cuts)).1

pub returns-in-Err-clause-leaves : goal.returns-in-Err-clause-leaves
returns-in-Err-clause-leaves g c told input begins are =
    nothing_written (window_lines c.args.span.from c.args.span.to) c.args.span.from c.args.span.to _ _ _ _
    c.in-Err.status c.in-Err.ensures.kind

pub returns-in-Err-clause-answer : goal.returns-in-Err-clause-answer
returns-in-Err-clause-answer g c told input begins are =
    c.in-Err.ensures.reads told (window_lines c.args.span.from c.args.span.to) input begins are
