use Rattle.std.proofs.Common.{take, Ok}
use Rattle.cx_codec.specs.declared.fault.OutFault.TheVariants.{WriteFault}
use Rattle.cx_codec.specs.Puts.{Puts, onto}
use Rattle.cx_inspect.specs.Lines.{root_lines}
use Rattle.cx_inspect.proofs.roots.Roots.put_lines.Given as goal

abbrev pub invariant-loop-index : goal.invariant-loop-index
invariant-loop-index g l =
    let held = g.T.Sink.held in
    let faults = g.T.Sink.faults in
    Puts {X = Unit {0}} WriteFault (root_lines (take l.index l.self))
    (onto l.fn.out (held l.fn.sink) (faults l.fn.sink)) (onto l.out (held l.sink) (faults l.sink)) (Ok (tt {0}))
