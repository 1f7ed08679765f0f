use Rattle.std.proofs.Common.{◌≡◌, ◌-◌, false, IsTrue}
use Rattle.cx_log_bench.proofs.reading.read_recording.Given as goal

abbrev pub invariant-loop-reader : goal.invariant-loop-reader
invariant-loop-reader g l = record {
  live : IsTrue l.reader.input.live;
  pages : l.reader.left ≡ 0;
  more : l.reader.ended ≡ false;
}

abbrev pub decreases-loop-reader : goal.decreases-loop-reader
decreases-loop-reader g l = l.reader.input.limit - l.reader.input.at
