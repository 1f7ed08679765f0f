use Rattle.std.proofs.Common.{◌≡◌, ℕ, List, length, ◌+◌, ◌-◌, ◌^◌, ◌<◌, ◌≤◌, IsSome}
use Rattle.cx_codec.specs.Reads.{Begins, Standing, Follows, place_in}
use Rattle.cx_codec.specs.Window.{Moves, reach_of}
use Rattle.cx_codec.proofs.buffer.Buffer.copy.Given as goal

abbrev pub invariant-loop-count : goal.invariant-loop-count
invariant-loop-count g l =
    let left = g.S.Source.left in
    let given = g.S.Source.given in
    let faults = g.S.Source.faults in
    let first : Standing = record { hand = l.fn.self; left = left l.fn.source; given = given l.fn.source } in
    let now : Standing = record { hand = l.self; left = left l.source; given = given l.source } in
    record {
      within : l.count ≤ l.reach;
      reach : l.reach ≡ reach_of (length l.into) l.fn.self;
      at : l.self.at ≡ l.fn.self.at + l.count;
      limit : l.self.limit ≡ l.fn.self.limit;
      inside : l.self.at ≤ l.self.limit;
      follows : IsSome (left l.fn.source) → Follows first now;
      moved : IsSome (left l.fn.source) → (input : List ℕ) → Begins (given l.source) input
          → Moves l.into l.count (place_in first input) (place_in now input);
      held : l.reach ≤ length l.fn.self.ahead → (l.source ≡ l.fn.source) × Moves l.into l.count l.fn.self l.self;
      later : faults l.fn.source ≤ faults l.source;
      fits : faults l.fn.source < 2 ^ 64 → faults l.source < 2 ^ 64;
    }

abbrev pub decreases-loop-count : goal.decreases-loop-count
decreases-loop-count g l = l.reach - l.count
