use Rattle.std.proofs.Common.{◌≡◌, ◌≤◌, length, take}
use Rattle.cx_shadow.specs.Cells.{byte_of}
use Rattle.cx_slices.specs.Bytes.{missing}
use Rattle.cx_process.proofs.items.missing.Given as goal

pub record Missing (l : goal.Live-loop-byte) : Type 0 where
  pub items : l.missing.items ≡ missing (byte_of l.shadow) (take l.byte-index l.bytes)
  pub few : length l.missing.items ≤ l.byte-index
  pub room : length l.bytes ≤ 8

abbrev pub invariant-loop-byte : goal.invariant-loop-byte
invariant-loop-byte l = Missing l
