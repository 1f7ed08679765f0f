use Rattle.std.proofs.Common.{ℕ, ◌+◌, ◌-◌, ◌^◌, ◌<◌, ◌≤◌, ◌≡◌, [], if◌then◌else◌, List, Ok, IsSome, unwrap_or}
use Rattle.std.specs.Bool.{OnFalse}
use Rattle.cx_alone.specs.Ahead.{MayBeInput}
use Rattle.cx_codec.specs.Place.{Place, end_of}
use Rattle.cx_replay.specs.Records.{GaveMore}
use Rattle.cx_commands.specs.Streaming.{Told}
use Rattle.cx_retelling.specs.Through.{RetellsOn}
use Rattle.cx_retelling.proofs.retelling.retell_all.Given as goal

abbrev pub invariant-loop-going : goal.invariant-loop-going
invariant-loop-going g l =
    let left = g.S.Source.left in
    let given = g.S.Source.given in
    let faults = g.S.Source.faults in
    let held = g.T.Sink.held in
    let fails = g.T.Sink.faults in
    let stands = g.R.SliceReplay.stands in
    let text = g.L.ObservationTeller.text in
    let waiting = g.L.ObservationTeller.waiting in
    let keeps = g.L.ObservationTeller.keeps in
    record {
      follows : IsSome (left l.fn.source) → GaveMore (left l.fn.source) (given l.fn.source) (left l.source)
          (given l.source);
      told : IsSome (left l.fn.source) → (input : List ℕ) → MayBeInput (left l.source) (given l.source) input
          → (p : Place) → stands p [] l.fn.replay (left l.fn.source) (given l.fn.source) input
          → RetellsOn text (g.R.SliceReplay.through p) (end_of p)
          (λ os. stands p os l.replay (left l.source) (given l.source) input)
          (λ os. Told (held l.fn.sink) (text os) (waiting l.teller) (held l.sink) (keeps l.teller os))
          (input ≡ given l.source) (held l.fn.sink) (held l.sink) (Ok l.going);
      last : IsSome (left l.fn.source) → g.R.SliceReplay.last l.fn.replay (left l.fn.source)
          → g.R.SliceReplay.last l.replay (left l.source);
      spent : IsSome (left l.fn.source) → g.R.SliceReplay.last l.fn.replay (left l.fn.source)
          → OnFalse l.going (unwrap_or (left l.source) [] ≡ []);
      able : g.R.SliceReplay.going l.replay;
      ready : g.L.ObservationTeller.ready l.teller;
      later : faults l.fn.source ≤ faults l.source;
      small : faults l.fn.source < 2 ^ 64 → faults l.source < 2 ^ 64;
      failed : fails l.fn.sink ≤ fails l.sink;
      few : fails l.fn.sink < 2 ^ 64 → fails l.sink < 2 ^ 64;
    }

abbrev pub decreases-loop-going : goal.decreases-loop-going
decreases-loop-going g l = 2 ^ 64 - g.R.SliceReplay.count l.replay + (if l.going then 1 else 0)
