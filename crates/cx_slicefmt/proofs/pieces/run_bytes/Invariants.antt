use Rattle.std.proofs.Common.{◌≡◌, ◌-◌, ◌*◌, ◌^◌, ◌<◌, ◌≤◌, IsSome, IsTrue}
use Rattle.arrayvec.specs.ArrayVec.{array_vec_len}
use Rattle.cx_codec.specs.Reads.{over}
use Rattle.cx_codec.proofs.Midway.{Midway}
use Rattle.cx_slicefmt.specs.Engine.{run_bytes_at}
use Rattle.cx_slicefmt.proofs.RunLoop.{runs_left}
use Rattle.cx_slicefmt.proofs.pieces.run_bytes.Given as goal

abbrev pub invariant-loop-index : goal.invariant-loop-index
invariant-loop-index g l =
    let left = g.S.Source.left in
    let given = g.S.Source.given in
    let faults = g.S.Source.faults in
    record {
      live : IsTrue l.bytes.live;
      limit : l.bytes.limit ≡ l.fn.bytes.limit;
      within : l.bytes.at ≤ l.bytes.limit;
      room : array_vec_len l.into ≤ 8 * l.index;
      read : IsSome (left l.fn.source)
          → Midway (run_bytes_at l.count) (over l.fn.bytes (left l.fn.source) (given l.fn.source))
          (runs_left l.into.items (l.count - l.index) l.least) (over l.bytes (left l.source) (given l.source));
      later : faults l.fn.source ≤ faults l.source;
      small : faults l.fn.source < 2 ^ 64 → faults l.source < 2 ^ 64;
    }
