use Rattle.std.proofs.Common.{◌≡◌, ℕ, List, ◌++◌, Option, take, true, ◌≤◌, ◌<◌, ◌^◌}
use Rattle.cx_answer.specs.Lines.{answer_lines}
use Rattle.cx_codec.specs.Blocks.{StandsFor}
use Rattle.cx_log.specs.Recording.{Recording}
use Rattle.cx_seek.specs.Seeking.{IsOf}
use Rattle.cx_commands.specs.Streaming.{Told}
use Rattle.cx_querying.proofs.lines.put_lines.Given as goal

abbrev pub invariant-loop-index : goal.invariant-loop-index
invariant-loop-index g l = record {
  live : l.out.live ≡ true;
  course : l.seeker.course ≡ l.fn.seeker.course;
  puts : (R : Recording) (base : Option (List ℕ)) (put : List ℕ) → IsOf R l.fn.seeker
      → StandsFor base put l.fn.out.bytes (g.T.Sink.held l.fn.sink)
      → Told base (put ++ answer_lines R (take l.index l.queries)) l.out.bytes (g.T.Sink.held l.sink) (IsOf R l.seeker);
  later : g.T.Sink.faults l.fn.sink ≤ g.T.Sink.faults l.sink;
  few : g.T.Sink.faults l.fn.sink < 2 ^ 64 → g.T.Sink.faults l.sink < 2 ^ 64;
}
