use Rattle.std.proofs.Common.{ℕ, List, Option, ◌++◌, length, ◌-◌, ◌^◌, ◌<◌, ◌≤◌, take, IsSome, IsTrue}
use Rattle.cx_codec.specs.Blocks.{StandsFor}
use Rattle.cx_codec.proofs.output.Out.put_bytes.Given as goal

abbrev pub invariant-loop-done : goal.invariant-loop-done
invariant-loop-done g l =
    let held = g.T.Sink.held in
    let faults = g.T.Sink.faults in
    record {
      within : l.done ≤ length l.bytes;
      live : IsTrue l.self.live;
      told : IsSome (held l.fn.sink) → IsSome (held l.sink);
      stands : (base : Option (List ℕ)) (put : List ℕ) → StandsFor base put l.fn.self.bytes (held l.fn.sink) → StandsFor base (put ++ take l.done l.bytes) l.self.bytes (held l.sink);
      later : faults l.fn.sink ≤ faults l.sink;
      fits : faults l.fn.sink < 2 ^ 64 → faults l.sink < 2 ^ 64;
    }

abbrev pub decreases-loop-done : goal.decreases-loop-done
decreases-loop-done g l = length l.bytes - l.done
