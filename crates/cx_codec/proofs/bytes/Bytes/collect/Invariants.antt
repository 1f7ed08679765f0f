use Rattle.std.proofs.Common.{◌≡◌, ◌+◌, ◌^◌, ◌<◌, ◌≤◌, length, IsSome, IsTrue}
use Rattle.cx_codec.specs.Place.{at_hand}
use Rattle.cx_codec.specs.Reads.{over}
use Rattle.cx_codec.proofs.Collecting.{Collecting, Held}
use Rattle.cx_codec.proofs.bytes.Bytes.collect.Given as goal

abbrev pub invariant-loop-count : goal.invariant-loop-count
invariant-loop-count g l =
    let left = g.S.Source.left in
    let given = g.S.Source.given in
    let faults = g.S.Source.faults in
    record {
      live : IsTrue l.self.live;
      whole : length l.field ≡ 10;
      at : l.self.at ≡ l.fn.self.at + l.count;
      limit : l.self.limit ≡ l.fn.self.limit;
      within : l.self.at ≤ l.self.limit;
      taken : IsSome (left l.fn.source)
          → Collecting (over l.fn.self (left l.fn.source) (given l.fn.source))
          (over l.self (left l.source) (given l.source)) l.field l.count;
      held : Held (at_hand l.fn.self) l.field l.count (at_hand l.self) (l.source ≡ l.fn.source);
      later : faults l.fn.source ≤ faults l.source;
      fits : faults l.fn.source < 2 ^ 64 → faults l.source < 2 ^ 64;
    }
