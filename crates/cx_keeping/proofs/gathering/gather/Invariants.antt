use Rattle.std.proofs.Common.{◌≡◌, ℕ, suc, ◌-◌, ◌^◌, ◌<◌, ◌≤◌, List, IsSome, IsTrue}
use Rattle.cx_codec.specs.Reads.{Begins}
use Rattle.cx_log.specs.Order.{InOrder, at_start}
use Rattle.cx_log.specs.Reading.{Opened}
use Rattle.cx_log.specs.Scan.{Scan}
use Rattle.cx_replay.specs.Records.{GaveMore}
use Rattle.cx_replay.specs.Replaying.{Stands}
use Rattle.cx_keeping.specs.Keeping.{GoesTo}
use Rattle.cx_keeping.proofs.gathering.gather.Given as goal

abbrev pub invariant-loop-found : goal.invariant-loop-found
invariant-loop-found g l =
    let left = g.S.Source.left in
    let given = g.S.Source.given in
    let faults = g.S.Source.faults in
    let seen = g.R.Records.seen in
    let has = g.R.Records.has in
    record {
      follows : IsSome (left l.fn.source) → GaveMore (left l.fn.source) (given l.fn.source) (left l.source)
          (given l.source);
      goes : IsSome (left l.fn.source) → (input : List ℕ) → Begins (given l.source) input → (end from last : ℕ)
          (o : Opened) (whole : Scan)
          → InOrder o.header.pages (at_start o.header.base o.header.start) whole.events last
          → GoesTo o whole from l.fn.replay.progress.at (suc l.fn.replay.progress.at) l.fn.kept
          (λ now. Stands o whole now l.fn.replay.machine l.fn.replay.progress (seen l.fn.replay.records).bytes
          (has l.fn.replay.records (given l.fn.source) input end))
          → GoesTo o whole from l.replay.progress.at (suc l.replay.progress.at) l.kept
          (λ now. Stands o whole now l.replay.machine l.replay.progress (seen l.replay.records).bytes
          (has l.replay.records (given l.source) input end));
      rises : l.fn.replay.progress.at ≤ l.replay.progress.at;
      live : IsTrue l.replay.live;
      split : l.replay.machine.split ≡ l.fn.replay.machine.split;
      saved : l.replay.machine.saved ≡ l.fn.replay.machine.saved;
      pages : (seen l.replay.records).pages ≡ (seen l.fn.replay.records).pages;
      later : faults l.fn.source ≤ faults l.source;
      small : faults l.fn.source < 2 ^ 64 → faults l.source < 2 ^ 64;
    }

abbrev pub decreases-loop-found : goal.decreases-loop-found
decreases-loop-found g l = 2 ^ 64 - l.replay.progress.at
