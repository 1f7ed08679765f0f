use Rattle.std.proofs.Common.{◌≡◌, ◌≤◌, ◌-◌, ◌||◌, ℕ, List, take, length, is_some}
use Rattle.cx_marks.specs.Marked.{is_marked}
use Rattle.cx_shadow.specs.Cells.{AreHeld, is_held}
use Rattle.cx_slices.specs.Bytes.{Byte, byte_found}
use Rattle.cx_call_alone.specs.Owed.{Owes, owed_behind}
use Rattle.cx_call_alone.specs.Standing.{owed_marks}
use Rattle.cx_call_alone.proofs.marking.access.Given as goal

pub record Accessing (l : goal.Live-loop-at) : Type 0 where
  pub within : l.at ≤ length l.bytes
  pub marks : (a : ℕ) → is_marked l.touched a
      ≡ (is_marked l.fn.touched a || is_some (byte_found (take l.at l.bytes) a))
  pub holds : (a : ℕ) → is_held l.touched.stamps a ≡ is_held l.fn.touched.stamps a
  pub asked : AreHeld l.fn.touched.stamps l.bytes
  pub owes : (owed : List Byte) → Owes (owed_marks l.head l.fn.touched) l.owes owed
      → Owes (owed_marks l.head l.touched) l.left (owed_behind (take l.at l.bytes) owed)

abbrev pub invariant-loop-at : goal.invariant-loop-at
invariant-loop-at l = Accessing l

abbrev pub decreases-loop-at : goal.decreases-loop-at
decreases-loop-at l = length l.bytes - l.at
