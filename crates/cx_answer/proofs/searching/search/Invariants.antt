-- Nothing was found from here on up to the step that is asked about.
use Rattle.std.proofs.Common.{◌≡◌, ◌+◌, ◌-◌, ◌≤◌}
use Rattle.cx_log.specs.Recording.{Recording}
use Rattle.cx_seek.specs.Seeking.{IsOf, IsSameCourse}
use Rattle.cx_answer.specs.AnswerOf.{found_between}
use Rattle.cx_answer.proofs.searching.search.Given as goal

abbrev pub invariant-loop-upto : goal.invariant-loop-upto
invariant-loop-upto g l = record {
  run : (R : Recording) → IsOf R l.fn.seeker → IsOf R l.seeker;
  found : (R : Recording) → IsOf R l.fn.seeker
      → found_between R l.query l.base l.n ≡ found_between R l.query l.base l.upto;
  above : l.base ≤ l.upto;
  below : l.upto ≤ l.n;
  same : IsSameCourse l.fn.seeker l.seeker;
  ticks : l.steps ≤ l.fn.steps + (l.n - l.upto);
}

abbrev pub decreases-loop-upto : goal.decreases-loop-upto
decreases-loop-upto g l = l.upto
