use Rattle.std.proofs.Common.{length, ◌-◌, ◌^◌, ◌<◌, ◌≤◌, take, IsSome}
use Rattle.std.specs.Io.KnownBytes.{Appends}
use Rattle.cx_codec.proofs.output.write_all.Given as goal

abbrev pub invariant-loop-written : goal.invariant-loop-written
invariant-loop-written g l =
    let held = g.T.Sink.held in
    let faults = g.T.Sink.faults in
    record {
      within : l.written ≤ length l.bytes;
      told : IsSome (held l.fn.sink) → IsSome (held l.sink);
      appended : Appends (held l.fn.sink) (held l.sink) (take l.written l.bytes);
      later : faults l.fn.sink ≤ faults l.sink;
      fits : faults l.fn.sink < 2 ^ 64 → faults l.sink < 2 ^ 64;
    }

abbrev pub decreases-loop-written : goal.decreases-loop-written
decreases-loop-written g l = length l.bytes - l.written
