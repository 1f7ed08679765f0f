use Rattle.std.proofs.Common.{◌+◌, ◌-◌, ◌≤◌}
use Rattle.cx_log.specs.Recording.{Recording}
use Rattle.cx_seek.specs.Seeking.{IsRunOf, IsSameMachine, StandsIn}
use Rattle.cx_seek.proofs.player.Player.run_on.Given as goal

abbrev pub invariant-loop-self : goal.invariant-loop-self
invariant-loop-self g l = record {
  stands : (run : Recording) → IsRunOf run l.course l.fn.self.machine → StandsIn run l.course.notes l.fn.self
      → StandsIn run l.course.notes l.self;
  above : l.fn.self.at ≤ l.self.at;
  below : l.self.at ≤ l.n;
  ticks : l.steps ≤ l.fn.steps + (l.self.at - l.fn.self.at);
  same : IsSameMachine l.fn.self.machine l.self.machine;
}

abbrev pub decreases-loop-self : goal.decreases-loop-self
decreases-loop-self g l = l.n - l.self.at
