use Rattle.std.proofs.Common.{◌≡◌, ◌+◌, ◌≤◌, Ok}
use Rattle.cx_codec.specs.declared.fault.OutFault.TheVariants.{WriteFault}
use Rattle.cx_codec.specs.Puts.{Puts, onto}
use Rattle.cx_log.specs.Text.{page_count, pages_text}
use Rattle.cx_tellers.proofs.front.put_pages.Given as goal

abbrev pub invariant-loop-page : goal.invariant-loop-page
invariant-loop-page g l =
    let held = g.T.Sink.held in
    let faults = g.T.Sink.faults in
    record {
      puts : Puts {X = Unit {0}} WriteFault (pages_text l.ram.memory l.page)
          (onto l.fn.writer.output (held l.fn.sink) (faults l.fn.sink))
          (onto l.writer.output (held l.sink) (faults l.sink)) (Ok (tt {0}));
      header : l.writer.header ≡ l.fn.writer.header;
      behind : l.writer.behind ≡ l.fn.writer.behind;
      least : l.writer.least ≤ l.page;
      left : l.writer.left + page_count l.ram.memory l.page ≡ page_count l.ram.memory l.pages;
    }
