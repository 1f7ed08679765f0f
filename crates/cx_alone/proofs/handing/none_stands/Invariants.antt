use Rattle.std.proofs.Common.{◌≡◌, take, true}
use Rattle.cx_shadow.specs.Cells.{byte_of}
use Rattle.cx_slices.specs.Bytes.{none_stands}
use Rattle.cx_alone.proofs.handing.none_stands.Given as goal

pub record Passing (l : goal.Live-loop-byte) : Type 0 where
  pub none : none_stands (byte_of l.shadow) (take l.byte-index l.bytes) ≡ true

abbrev pub invariant-loop-byte : goal.invariant-loop-byte
invariant-loop-byte l = Passing l
