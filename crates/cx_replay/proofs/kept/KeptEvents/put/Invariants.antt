use Rattle.std.proofs.Common.{◌≡◌, drop, take, Ok}
use Rattle.cx_codec.specs.declared.fault.OutFault.TheVariants.{WriteFault}
use Rattle.cx_codec.specs.Puts.{Puts, onto}
use Rattle.cx_log.specs.Order.{InOrder}
use Rattle.cx_run.specs.SoFar.{behind_all, events_text}
use Rattle.cx_replay.proofs.kept.KeptEvents.put.Given as goal

abbrev pub invariant-loop-index : goal.invariant-loop-index
invariant-loop-index g l =
    let held = g.T.Sink.held in
    let faults = g.T.Sink.faults in
    record {
      puts : Puts {X = Unit {0}} WriteFault (events_text l.fn.writer.behind (take l.index l.self))
          (onto l.fn.writer.output (held l.fn.sink) (faults l.fn.sink))
          (onto l.writer.output (held l.sink) (faults l.sink)) (Ok (tt {0}));
      behind : l.writer.behind ≡ behind_all l.fn.writer.behind (take l.index l.self);
      order : InOrder l.writer.header.pages l.writer.behind (drop l.index l.self) l.fn.end;
      header : l.writer.header ≡ l.fn.writer.header;
      left : l.writer.left ≡ 0;
    }
