use Rattle.std.proofs.Common.{◌≡◌, ◌^◌, ◌<◌, ◌≤◌, length, IsSome, IsTrue}
use Rattle.cx_codec.specs.Reads.{over}
use Rattle.cx_codec.proofs.Midway.{Midway}
use Rattle.cx_slicefmt.specs.Reading.{masked_at}
use Rattle.cx_slicefmt.proofs.WordLoop.{words_from}
use Rattle.cx_callfmt.proofs.masks.masked.Given as goal

abbrev pub invariant-loop-index : goal.invariant-loop-index
invariant-loop-index g l =
    let left = g.S.Source.left in
    let given = g.S.Source.given in
    let faults = g.S.Source.faults in
    record {
      live : IsTrue l.bytes.live;
      limit : l.bytes.limit ≡ l.fn.bytes.limit;
      within : l.bytes.at ≤ l.bytes.limit;
      size : length l.words ≡ 32;
      read : IsSome (left l.fn.source) → Midway masked_at (over l.fn.bytes (left l.fn.source) (given l.fn.source))
          (words_from l.words l.index l.mask) (over l.bytes (left l.source) (given l.source));
      later : faults l.fn.source ≤ faults l.source;
      small : faults l.fn.source < 2 ^ 64 → faults l.source < 2 ^ 64;
    }
