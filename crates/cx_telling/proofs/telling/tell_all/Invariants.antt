use Rattle.std.proofs.Common.{ℕ, ◌+◌, ◌-◌, ◌^◌, ◌<◌, ◌≤◌, [], if◌then◌else◌, List, Option, IsSome, IsTrue}
use Rattle.std.specs.Bool.{OnFalse}
use Rattle.cx_codec.specs.Reads.{Begins}
use Rattle.cx_log.specs.Reading.{Opened}
use Rattle.cx_log.specs.Scan.{Scan}
use Rattle.cx_replay.specs.Records.{GaveMore, MayBeWhole}
use Rattle.cx_replay.specs.Replaying.{Stands}
use Rattle.cx_commands.specs.Streaming.{IsOrdered, IsTold, Told}
use Rattle.cx_telling.proofs.telling.tell_all.Given as goal

abbrev pub invariant-loop-going : goal.invariant-loop-going
invariant-loop-going g l =
    let left = g.S.Source.left in
    let given = g.S.Source.given in
    let faults = g.S.Source.faults in
    let held = g.T.Sink.held in
    let fails = g.T.Sink.faults in
    let text = g.W.Teller.text in
    let waiting = g.W.Teller.waiting in
    let keeps = g.W.Teller.keeps in
    record {
      follows : IsSome (left l.fn.source) → GaveMore (left l.fn.source) (given l.fn.source) (left l.source)
          (given l.source);
      told : IsSome (left l.fn.source) → (input : List ℕ) → Begins (given l.source) input
          → (end : ℕ) (asked : _) (o : Opened) (whole : Scan) (base : Option (List ℕ)) → IsOrdered o whole
          → Stands o whole [] l.fn.replay.machine l.fn.replay.progress (g.R.Records.seen l.fn.replay.records).bytes
          (g.R.Records.has l.fn.replay.records (given l.fn.source) input end)
          → Told base (text asked o whole []) (waiting l.fn.teller) (held l.fn.sink) (keeps l.fn.teller asked o whole [])
          → IsTold o whole
          (λ now. Told base (text asked o whole now) (waiting l.teller) (held l.sink) (keeps l.teller asked o whole now))
          (λ now. Stands o whole now l.replay.machine l.replay.progress (g.R.Records.seen l.replay.records).bytes
          (g.R.Records.has l.replay.records (given l.source) input end)) l.replay.progress.at
          (MayBeWhole (left l.source) (given l.source) input) l.going;
      spent : IsSome (left l.fn.source) → OnFalse l.going (g.R.Records.leaves (left l.source));
      live : IsTrue l.replay.live;
      ready : g.W.Teller.ready l.teller;
      later : faults l.fn.source ≤ faults l.source;
      small : faults l.fn.source < 2 ^ 64 → faults l.source < 2 ^ 64;
      failed : fails l.fn.sink ≤ fails l.sink;
      few : fails l.fn.sink < 2 ^ 64 → fails l.sink < 2 ^ 64;
    }

abbrev pub decreases-loop-going : goal.decreases-loop-going
decreases-loop-going g l = 2 ^ 64 - l.replay.progress.at + (if l.going then 1 else 0)
