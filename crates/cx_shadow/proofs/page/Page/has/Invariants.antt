use Rattle.std.proofs.Common.{◌≡◌, ◌+◌, ◌≤◌, length, take, true}
use Rattle.cx_map.specs.declared.TheConstants.{PAGE_SIZE}
use Rattle.cx_shadow.specs.Cells.{are_at, bytes_of_page}
use Rattle.cx_shadow.proofs.page.Page.has.Given as goal

pub record Having (l : goal.Live-loop-byte) : Type 0 where
  pub had : are_at (bytes_of_page l.self) l.fn.offset (take l.byte-index l.bytes) ≡ true
  pub at : l.at ≡ l.fn.offset + l.byte-index
  pub within : l.fn.offset + length l.bytes ≤ PAGE_SIZE

abbrev pub invariant-loop-byte : goal.invariant-loop-byte
invariant-loop-byte l = Having l
