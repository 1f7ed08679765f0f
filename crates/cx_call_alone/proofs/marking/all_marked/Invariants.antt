use Rattle.std.proofs.Common.{◌≡◌, take, true}
use Rattle.std.specs.List.{list_all}
use Rattle.cx_marks.specs.Marked.{is_marked}
use Rattle.cx_slices.specs.Bytes.{Byte}
use Rattle.cx_call_alone.proofs.marking.all_marked.Given as goal

pub record Passing (l : goal.Live-loop-byte) : Type 0 where
  pub all : list_all (λ (e : Byte). is_marked l.marks e.0) (take l.byte-index l.bytes) ≡ true

abbrev pub invariant-loop-byte : goal.invariant-loop-byte
invariant-loop-byte l = Passing l
