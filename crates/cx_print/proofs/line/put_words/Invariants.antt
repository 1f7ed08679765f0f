use Rattle.std.proofs.Common.{◌≡◌, ◌+◌, ◌*◌, ◌++◌, length, take}
use Rattle.cx_print.specs.Words.{spaced_words}
use Rattle.cx_print.proofs.line.put_words.Given as goal

abbrev pub invariant-loop-word : goal.invariant-loop-word
invariant-loop-word l = record {
  text : l.line ≡ l.initial.line ++ spaced_words (take l.word-index l.words);
  room : length l.line ≡ length l.initial.line + 9 * l.word-index;
}
