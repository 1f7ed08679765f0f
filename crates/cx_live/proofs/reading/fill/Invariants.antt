use Rattle.std.proofs.Common.{◌≡◌, ◌^◌, ◌<◌, ◌≤◌, length, IsSome, IsTrue}
use Rattle.cx_codec.specs.Reads.{over}
use Rattle.cx_live.proofs.Filling.{FilledTo, stage}
use Rattle.cx_live.proofs.reading.fill.Given as goal

abbrev pub invariant-loop-left : goal.invariant-loop-left
invariant-loop-left g l =
    let left = g.S.Source.left in
    let given = g.S.Source.given in
    let faults = g.S.Source.faults in
    record {
      live : IsTrue l.bytes.live;
      size : length l.machine.memory ≡ length l.fn.machine.memory;
      state : l.machine.state ≡ l.fn.machine.state;
      split : l.machine.split ≡ l.fn.machine.split;
      filled : IsSome (left l.fn.source) → FilledTo l.pages
          (stage l.count 0 l.fn.machine.memory) (stage l.left l.least l.machine.memory)
          (over l.fn.bytes (left l.fn.source) (given l.fn.source)) (over l.bytes (left l.source) (given l.source));
      later : faults l.fn.source ≤ faults l.source;
      small : faults l.fn.source < 2 ^ 64 → faults l.source < 2 ^ 64;
    }

abbrev pub decreases-loop-left : goal.decreases-loop-left
decreases-loop-left g l = l.left
