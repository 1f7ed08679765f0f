use Rattle.std.proofs.Common.{◌≡◌, ◌+◌, ◌*◌, ◌++◌, length, take}
use Rattle.cx_print.specs.Words.{joined_bytes}
use Rattle.cx_print.proofs.line.put_bytes.Given as goal

abbrev pub invariant-loop-byte : goal.invariant-loop-byte
invariant-loop-byte l = record {
  text : l.line ≡ l.initial.line ++ joined_bytes (take l.byte-index l.bytes);
  room : length l.line ≡ length l.initial.line + 2 * l.byte-index;
}
