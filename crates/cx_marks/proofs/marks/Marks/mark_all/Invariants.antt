use Rattle.std.proofs.Common.{◌≡◌, ◌≤◌, ◌||◌, ℕ, drop, length, is_some}
use Rattle.cx_marks.specs.Marked.{is_marked}
use Rattle.cx_shadow.specs.Cells.{AreHeld, is_held}
use Rattle.cx_slices.specs.Bytes.{byte_found}
use Rattle.cx_marks.proofs.marks.Marks.mark_all.Given as goal

pub record Marking (l : goal.Live-loop-left) : Type 0 where
  pub within : l.left ≤ length l.bytes
  pub marks : (a : ℕ) → is_marked l.self a
      ≡ (is_marked l.fn.self a || is_some (byte_found (drop l.left l.bytes) a))
  pub holds : (a : ℕ) → is_held l.self.stamps a ≡ is_held l.fn.self.stamps a
  pub asked : AreHeld l.fn.self.stamps l.bytes

abbrev pub invariant-loop-left : goal.invariant-loop-left
invariant-loop-left l = Marking l

abbrev pub decreases-loop-left : goal.decreases-loop-left
decreases-loop-left l = l.left
