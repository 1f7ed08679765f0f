use Rattle.std.proofs.Common.{◌≡◌, ◌≤◌, length, take}
use Rattle.cx_marks.specs.Marked.{is_marked}
use Rattle.cx_placing.specs.Touched.{first_touched, touched_again}
use Rattle.cx_shadow.specs.Cells.{byte_of}
use Rattle.cx_slices.specs.Bytes.{missing}
use Rattle.cx_calls.proofs.items.bytes_missed.Given as goal

pub record Missing (l : goal.Live-loop-byte) : Type 0 where
  pub first : l.missed.first.items
      ≡ first_touched (is_marked l.touched) (missing (byte_of l.shadow) (take l.byte-index l.seen))
  pub again : l.missed.again.items
      ≡ touched_again (is_marked l.touched) (missing (byte_of l.shadow) (take l.byte-index l.seen))
  pub few_first : length l.missed.first.items ≤ l.byte-index
  pub few_again : length l.missed.again.items ≤ l.byte-index
  pub room : length l.seen ≤ 8

abbrev pub invariant-loop-byte : goal.invariant-loop-byte
invariant-loop-byte l = Missing l
