use Rattle.std.proofs.Common.{◌≡◌, suc, ◌^◌, ◌<◌, ◌≤◌, cond, false, IsSome, IsTrue}
use Rattle.cx_codec.specs.Reads.{over}
use Rattle.cx_codec.proofs.Midway.{Midway}
use Rattle.cx_callfmt.specs.Engine.{NoneLeft, bytes_left}
use Rattle.cx_callfmt.specs.Gathering.{bytes_onto}
use Rattle.cx_callfmt.proofs.Gathers.{left_of}
use Rattle.cx_callfmt.proofs.gathering.gather_bytes.Given as goal

abbrev pub invariant-loop-more : goal.invariant-loop-more
invariant-loop-more g l =
    let left = g.S.Source.left in
    let given = g.S.Source.given in
    let faults = g.S.Source.faults in
    record {
      live : IsTrue l.reader.input.live;
      limit : l.reader.input.limit ≡ l.fn.reader.input.limit;
      within : l.reader.input.at ≤ l.reader.input.limit;
      behind : l.reader.behind ≡ l.fn.reader.behind;
      ended : l.reader.ended ≡ l.fn.reader.ended;
      none : l.more ≡ false → NoneLeft l.reader.pending;
      read : IsSome (left l.fn.source) → Midway (bytes_onto l.fn.into.items l.fn.reader.pending)
          (over l.fn.reader.input (left l.fn.source) (given l.fn.source))
          (left_of l.more l.into.items l.reader.pending)
          (over l.reader.input (left l.source) (given l.source));
      later : faults l.fn.source ≤ faults l.source;
      small : faults l.fn.source < 2 ^ 64 → faults l.source < 2 ^ 64;
    }

abbrev pub decreases-loop-more : goal.decreases-loop-more
decreases-loop-more g l = cond l.more (suc (bytes_left l.reader.pending)) 0
