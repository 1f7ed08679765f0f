-- What was found so far.
use Rattle.std.proofs.Common.{◌≡◌, ◌+◌, ◌-◌, ◌≤◌, IfSome, true}
use Rattle.cx_log.specs.Recording.{Recording}
use Rattle.cx_seek.specs.Seeking.{IsOf, IsSameCourse}
use Rattle.cx_answer.specs.AnswerOf.{IsBetween, found_between}
use Rattle.cx_answer.specs.Lines.{is_listed}
use Rattle.cx_answer.proofs.stretch.scan.Given as goal

abbrev pub invariant-loop : goal.invariant-loop
invariant-loop g l = record {
  run : (R : Recording) → IsOf R l.fn.seeker → IsOf R l.seeker;
  found : (R : Recording) → IsOf R l.fn.seeker → l.found ≡ found_between R l.query l.from l.counter;
  between : IfSome l.found (IsBetween l.from l.counter);
  listed : IfSome l.found (λ a. is_listed l.query a ≡ true);
  at : l.seeker.player.at ≡ l.counter;
  same : IsSameCourse l.fn.seeker l.seeker;
  above : l.from ≤ l.counter;
  ticks : l.steps ≤ l.fn.steps + (l.counter - l.from);
}
