use Rattle.std.proofs.Common.{◌≡◌, ℕ, ◌^◌, ◌<◌, ◌≤◌, List, Ok, IsSome}
use Rattle.cx_codec.specs.Reads.{Begins}
use Rattle.cx_log.specs.Scan.{Scan}
use Rattle.cx_replay.specs.Gathering.{IsGathering, IsReadyOr, IsTurned}
use Rattle.cx_replay.specs.Records.{GaveMore}
use Rattle.cx_replay.specs.Replaying.{Gathers}
use Rattle.cx_replay.proofs.gather.gather.Given as goal

abbrev pub invariant-loop-settled : goal.invariant-loop-settled
invariant-loop-settled g l =
    let left = g.S.Source.left in
    let given = g.S.Source.given in
    let faults = g.S.Source.faults in
    let seen = g.R.Records.seen in
    let has = g.R.Records.has in
    record {
      follows : IsSome (left l.fn.source) → GaveMore (left l.fn.source) (given l.fn.source) (left l.source)
          (given l.source);
      gathers : IsSome (left l.fn.source) → (input : List ℕ) → Begins (given l.source) input → (end : ℕ) (whole : Scan)
          → Gathers whole l.fn.progress.at l.fn.due l.fn.progress.marked (has l.fn.records (given l.fn.source) input
          end)
          → IsTurned whole l.progress l.due (seen l.records).bytes (has l.records (given l.source) input end) l.settled;
      sound : IsReadyOr (IsGathering l.progress l.due (seen l.records)) l.progress l.due (seen l.records)
          (Ok l.settled);
      at : l.progress.at ≡ l.fn.progress.at;
      pages : (seen l.records).pages ≡ (seen l.fn.records).pages;
      later : faults l.fn.source ≤ faults l.source;
      small : faults l.fn.source < 2 ^ 64 → faults l.source < 2 ^ 64;
    }

abbrev pub decreases-loop-settled : goal.decreases-loop-settled
decreases-loop-settled g l = (g.R.Records.seen l.records).most
