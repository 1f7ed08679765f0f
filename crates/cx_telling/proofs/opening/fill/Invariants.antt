use Rattle.std.proofs.Common.{◌≡◌, ◌^◌, ◌<◌, ◌≤◌, length, IsSome, IsTrue}
use Rattle.cx_codec.specs.Reads.{over}
use Rattle.cx_telling.proofs.Filling.{FilledTo, stage}
use Rattle.cx_telling.proofs.opening.fill.Given as goal

abbrev pub invariant-loop-number : goal.invariant-loop-number
invariant-loop-number g l =
    let left = g.S.Source.left in
    let given = g.S.Source.given in
    let faults = g.S.Source.faults in
    record {
      live : IsTrue l.reader.input.live;
      header : l.reader.header ≡ l.fn.reader.header;
      behind : l.reader.behind ≡ l.fn.reader.behind;
      ended : l.reader.ended ≡ l.fn.reader.ended;
      size : length l.machine.memory ≡ length l.fn.machine.memory;
      state : l.machine.state ≡ l.fn.machine.state;
      split : l.machine.split ≡ l.fn.machine.split;
      filled : IsSome (left l.fn.source) → FilledTo l.fn.reader.header.pages
          (stage l.fn.reader.left l.fn.reader.least l.fn.machine.memory)
          (stage l.reader.left l.reader.least l.machine.memory)
          (over l.fn.reader.input (left l.fn.source) (given l.fn.source))
          (over l.reader.input (left l.source) (given l.source));
      later : faults l.fn.source ≤ faults l.source;
      small : faults l.fn.source < 2 ^ 64 → faults l.source < 2 ^ 64;
    }

abbrev pub decreases-loop-number : goal.decreases-loop-number
decreases-loop-number g l = l.reader.left
