use Rattle.std.proofs.Common.{Ok, take, map}
use Rattle.cx_codec.specs.declared.fault.OutFault.TheVariants.{WriteFault}
use Rattle.cx_codec.specs.Puts.{Puts, onto}
use Rattle.cx_slicefmt.proofs.stretches.put_bytes.Given as goal

abbrev pub invariant-loop-byte : goal.invariant-loop-byte
invariant-loop-byte g l =
    let held = g.T.Sink.held in
    let faults = g.T.Sink.faults in
    record {
      puts : Puts {X = Unit {0}} WriteFault (map (λ e. e.1) (take l.byte-index l.bytes))
          (onto l.fn.out (held l.fn.sink) (faults l.fn.sink)) (onto l.out (held l.sink) (faults l.sink)) (Ok (tt {0}));
    }
