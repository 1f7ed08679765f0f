use Rattle.std.proofs.Common.{◌≡◌, ◌≤◌, ℕ, drop, length}
use Rattle.cx_slices.specs.Bytes.{with_bytes}
use Rattle.cx_shadow.specs.Cells.{AreHeld, byte_of, is_held}
use Rattle.cx_shadow.proofs.shadow.Shadow.put_all.Given as goal

pub record Putting (l : goal.Live-loop-left) : Type 0 where
  pub within : l.left ≤ length l.bytes
  pub bytes : (a : ℕ) → byte_of l.self a ≡ with_bytes (drop l.left l.bytes) (byte_of l.fn.self) a
  pub holds : (a : ℕ) → is_held l.self a ≡ is_held l.fn.self a
  pub asked : AreHeld l.fn.self l.bytes

abbrev pub invariant-loop-left : goal.invariant-loop-left
invariant-loop-left l = Putting l

abbrev pub decreases-loop-left : goal.decreases-loop-left
decreases-loop-left l = l.left
