use Rattle.std.proofs.Common.{◌≡◌, ◌+◌, take}
use Rattle.cx_exec.specs.Arithmetic.{wrapped}
use Rattle.cx_observe.specs.Seeing.{bytes_on}
use Rattle.cx_shadow.specs.Cells.{byte_of}
use Rattle.cx_slices.specs.Bytes.{Shows}
use Rattle.cx_program.proofs.standing.shows_each.Given as goal

pub record Showing (l : goal.Live-loop-byte) : Type 0 where
  pub shows : Shows (byte_of l.shadow) (bytes_on l.fn.va (take l.byte-index l.bytes))
  pub at : l.at ≡ wrapped (l.fn.va + l.byte-index)

abbrev pub invariant-loop-byte : goal.invariant-loop-byte
invariant-loop-byte l = Showing l
