use Rattle.std.proofs.Common.{◌≡◌, ℕ, ◌+◌, ◌-◌, ◌^◌, ◌<◌, ◌≤◌, if◌then◌else◌, List, IsSome, IsTrue}
use Rattle.std.specs.Bool.{OnFalse}
use Rattle.cx_codec.specs.Reads.{Begins}
use Rattle.cx_hart.specs.declared.record.StepRec.{StepRec}
use Rattle.cx_log.specs.Reading.{Opened}
use Rattle.cx_log.specs.Scan.{Scan, decoded}
use Rattle.cx_replay.specs.Records.{GaveMore, MayBeWhole}
use Rattle.cx_replay.specs.Replaying.{Stands}
use Rattle.cx_seek.specs.Keeping.{IsKept, IsKeptOf, Keeps}
use Rattle.cx_seek.proofs.opening.run_through.Given as goal

abbrev pub invariant-loop-going : goal.invariant-loop-going
invariant-loop-going g l =
    let left = g.S.Source.left in
    let given = g.S.Source.given in
    let faults = g.S.Source.faults in
    let seen = g.R.Records.seen in
    let has = g.R.Records.has in
    record {
      follows : IsSome (left l.fn.source) → GaveMore (left l.fn.source) (given l.fn.source) (left l.source)
          (given l.source);
      turned : IsSome (left l.fn.source) → (input : List ℕ) → Begins (given l.source) input
          → (end : ℕ) (o : Opened) (whole : Scan) (gave : List StepRec) → o.header.base ≡ l.base
          → Stands o whole gave l.fn.replay.machine l.fn.replay.progress (seen l.fn.replay.records).bytes
          (has l.fn.replay.records (given l.fn.source) input end)
          → Keeps (decoded o whole) l.fn.replay.machine.saved l.fn.replay.progress.at l.fn.keeping
          → IsKeptOf o whole l.replay.progress.at l.replay.machine l.keeping
          (λ now. Stands o whole now l.replay.machine l.replay.progress (seen l.replay.records).bytes
          (has l.replay.records (given l.source) input end)) (MayBeWhole (left l.source) (given l.source) input)
          l.going;
      spent : IsSome (left l.fn.source) → OnFalse l.going (g.R.Records.leaves (left l.source));
      pages : (seen l.replay.records).pages ≡ (seen l.fn.replay.records).pages;
      kept : IsKept (seen l.replay.records).pages (l.replay.progress.at - l.base) l.replay.machine.saved l.keeping;
      above : l.base ≤ l.replay.progress.at;
      live : IsTrue l.replay.live;
      later : faults l.fn.source ≤ faults l.source;
      small : faults l.fn.source < 2 ^ 64 → faults l.source < 2 ^ 64;
    }

abbrev pub decreases-loop-going : goal.decreases-loop-going
decreases-loop-going g l = 2 ^ 64 - l.replay.progress.at + (if l.going then 1 else 0)
