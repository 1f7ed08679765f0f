use Rattle.std.proofs.Common.{◌≡◌, ℕ, ◌-◌, List, ◌++◌, Ok, drop, length}
use Rattle.cx_codec.specs.declared.fault.OutFault.TheVariants.{WriteFault}
use Rattle.cx_codec.specs.Puts.{Puts, onto}
use Rattle.cx_slices.specs.Stretches.{stretches_of}
use Rattle.cx_slicefmt.specs.Text.{runs_text}
use Rattle.cx_slicefmt.proofs.stretches.put_all.Given as goal

-- what was put, and the runs to come
abbrev pub invariant-loop-at : goal.invariant-loop-at
invariant-loop-at g l =
    let held = g.T.Sink.held in
    let faults = g.T.Sink.faults in
    record {
      put : List ℕ;
      puts : Puts {X = Unit {0}} WriteFault put
          (onto l.fn.out (held l.fn.sink) (faults l.fn.sink)) (onto l.out (held l.sink) (faults l.sink)) (Ok (tt {0}));
      whole : put ++ runs_text (stretches_of (drop l.at l.bytes)) ≡ runs_text (stretches_of l.bytes);
    }

abbrev pub decreases-loop-at : goal.decreases-loop-at
decreases-loop-at g l = length l.bytes - l.at
