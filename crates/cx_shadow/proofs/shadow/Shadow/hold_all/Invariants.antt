use Rattle.std.proofs.Common.{◌≡◌, ℕ, true, take}
use Rattle.cx_shadow.specs.Cells.{AreHeld, byte_of, is_held}
use Rattle.cx_shadow.proofs.shadow.Shadow.hold_all.Given as goal

pub record Holding (l : goal.Live-loop-byte) : Type 0 where
  pub held : AreHeld l.self (take l.byte-index l.bytes)
  pub bytes : (a : ℕ) → byte_of l.self a ≡ byte_of l.fn.self a
  pub keeps : (a : ℕ) → is_held l.fn.self a ≡ true → is_held l.self a ≡ true

abbrev pub invariant-loop-byte : goal.invariant-loop-byte
invariant-loop-byte l = Holding l
