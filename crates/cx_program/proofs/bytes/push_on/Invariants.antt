use Rattle.std.proofs.Common.{◌≡◌, ◌+◌, ◌≤◌, ◌++◌, length, take}
use Rattle.cx_exec.specs.Arithmetic.{wrapped}
use Rattle.cx_observe.specs.Seeing.{bytes_on}
use Rattle.cx_program.proofs.bytes.push_on.Given as goal

pub record Pushing (l : goal.Live-loop-byte) : Type 0 where
  pub items : l.into.items ≡ l.fn.into.items ++ bytes_on l.fn.va (take l.byte-index l.bytes)
  pub size : length l.into.items ≡ length l.fn.into.items + l.byte-index
  pub at : l.at ≡ wrapped (l.fn.va + l.byte-index)
  pub room : length l.fn.into.items + length l.bytes ≤ 8

abbrev pub invariant-loop-byte : goal.invariant-loop-byte
invariant-loop-byte l = Pushing l
