use Rattle.std.proofs.Common.{◌≡◌, drop}
use Rattle.cx_slices.specs.Bytes.{byte_found}
use Rattle.cx_alone.proofs.handing.is_there.Given as goal

pub record Passing (l : goal.Live-loop-byte) : Type 0 where
  pub rest : byte_found l.bytes l.va ≡ byte_found (drop l.byte-index l.bytes) l.va

abbrev pub invariant-loop-byte : goal.invariant-loop-byte
invariant-loop-byte l = Passing l
