use Rattle.std.proofs.Common.{Ok, take}
use Rattle.cx_codec.specs.declared.fault.OutFault.TheVariants.{WriteFault}
use Rattle.cx_codec.specs.Puts.{Puts, onto}
use Rattle.cx_slicefmt.specs.Text.{present_text}
use Rattle.cx_slicefmt.proofs.text.put_present.Given as goal

abbrev pub invariant-loop-word : goal.invariant-loop-word
invariant-loop-word g l =
    let held = g.T.Sink.held in
    let faults = g.T.Sink.faults in
    record {
      puts : Puts {X = Unit {0}} WriteFault (present_text (take l.word-index l.words))
          (onto l.fn.out (held l.fn.sink) (faults l.fn.sink)) (onto l.out (held l.sink) (faults l.sink)) (Ok (tt {0}));
    }
