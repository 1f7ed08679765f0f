use Rattle.std.proofs.Common.{◌≡◌, ◌^◌, ◌<◌, ◌≤◌, length, IsSome, IsTrue}
use Rattle.cx_codec.specs.Reads.{over}
use Rattle.cx_log.proofs.Words.{WordsRead, FitsSoFar}
use Rattle.cx_log.proofs.reading.state_words.Given as goal

abbrev pub invariant-loop-index : goal.invariant-loop-index
invariant-loop-index g l =
    let left = g.S.Source.left in
    let given = g.S.Source.given in
    let faults = g.S.Source.faults in
    record {
      live : IsTrue l.bytes.live;
      limit : l.bytes.limit ≡ l.fn.bytes.limit;
      within : l.bytes.at ≤ l.bytes.limit;
      size : length l.words ≡ 58;
      fits : FitsSoFar l.pages l.words l.index l.before;
      read : IsSome (left l.fn.source) → WordsRead l.pages (over l.fn.bytes (left l.fn.source) (given l.fn.source))
          (over l.bytes (left l.source) (given l.source)) l.words l.index l.before;
      later : faults l.fn.source ≤ faults l.source;
      small : faults l.fn.source < 2 ^ 64 → faults l.source < 2 ^ 64;
    }
