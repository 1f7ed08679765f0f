use Rattle.cx_commands.specs.Call.{input_behind}
use Rattle.cx_tellers.proofs.RootsTold.{count_is_status, count_writes_nothing, roots_unread, roots_unwritten}
use Rattle.cx_tellers.proofs.RootsTold.{roots_written}
use Rattle.cx_top.proofs.roots.roots.Goals as goal

pub returns-in-Err-clause-leaves : goal.returns-in-Err-clause-leaves
returns-in-Err-clause-leaves g c told input begins are =
    roots_unread _ _ _ _ c.in-Err.status c.in-Err.ensures.kind

pub returns-in-Err-clause-kind : goal.returns-in-Err-clause-kind
returns-in-Err-clause-kind g c = count_is_status c.in-Err.status c.in-Err.ensures.kind

pub returns-in-Err-clause-write_cause : goal.returns-in-Err-clause-write_cause
returns-in-Err-clause-write_cause g c = count_writes_nothing c.in-Err.status _ c.in-Err.ensures.kind

pub returns-in-Ok-put_roots-clause-answer : goal.returns-in-Ok-put_roots-clause-answer
returns-in-Ok-put_roots-clause-answer g c told input begins are =
    let bytes = input_behind (g.S.Source.given c.args.source.now) input in
    (roots_written bytes _ (Unit {0}) (g.T.Sink.held c.args.sink.now) (g.T.Sink.held c.put_roots.new.sink) c.in-Ok.roots
    (c.in-Ok.ensures.reads told input begins are) c.in-Ok-put_roots.ensures.puts).0

pub returns-in-Ok-put_roots-clause-leaves : goal.returns-in-Ok-put_roots-clause-leaves
returns-in-Ok-put_roots-clause-leaves g c told input begins are =
    let bytes = input_behind (g.S.Source.given c.args.source.now) input in
    (roots_written bytes _ (Unit {0}) (g.T.Sink.held c.args.sink.now) (g.T.Sink.held c.put_roots.new.sink) c.in-Ok.roots
    (c.in-Ok.ensures.reads told input begins are) c.in-Ok-put_roots.ensures.puts).1

pub returns-clause-answer : goal.returns-clause-answer
returns-clause-answer g c told input begins are =
    let bytes = input_behind (g.S.Source.given c.args.source.now) input in
    rw c.from.ensures (roots_unwritten bytes _ _ (g.T.Sink.held c.args.sink.now)
    (g.T.Sink.held c.put_roots.new.sink) c.in-Ok.roots c.in-Err-put_roots.fault
    (c.in-Ok.ensures.reads told input begins are) c.in-Err-put_roots.ensures.puts).0

pub returns-clause-leaves : goal.returns-clause-leaves
returns-clause-leaves g c told input begins are =
    let bytes = input_behind (g.S.Source.given c.args.source.now) input in
    rw c.from.ensures (roots_unwritten bytes _ _ (g.T.Sink.held c.args.sink.now)
    (g.T.Sink.held c.put_roots.new.sink) c.in-Ok.roots c.in-Err-put_roots.fault
    (c.in-Ok.ensures.reads told input begins are) c.in-Err-put_roots.ensures.puts).1
