use Rattle.std.proofs.Common.{◌≡◌, ◌+◌, ◌*◌, length}
use Rattle.cx_bench.proofs.course.write_words.Given as goal

abbrev pub invariant-loop-word : goal.invariant-loop-word
invariant-loop-word l = (l.at ≡ l.place + 4 * l.word-index) × (length l.machine.memory ≡ 16384)
