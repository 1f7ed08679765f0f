-- Bytes in stretches: as a slice spells them, each as long as can be.
use Rattle.std.specs.Prelude.{ℕ, ◌+◌, ◌≤◌, ◌==◌, List, [], ◌∷◌, ◌++◌, length, if◌then◌else◌}
use Rattle.cx_slices.specs.Bytes.{Byte}

-- bytes from an address on
pub record Stretch : Type 0 where
  pub va : ℕ
  pub bytes : List ℕ

abbrev pub single : Byte → Stretch
single e = record { va = e.0; bytes = e.1 ∷ [] }

-- One more byte in front: of the first stretch, where that begins behind it.
abbrev pub put_before : Byte → List Stretch → List Stretch
put_before e [] = single e ∷ []
put_before e (s ∷ ss) =
    if e.0 + 1 == s.va then record { va = e.0; bytes = e.1 ∷ s.bytes } ∷ ss else single e ∷ s ∷ ss

abbrev pub stretches_of : List Byte → List Stretch
stretches_of [] = []
stretches_of (e ∷ es) = put_before e (stretches_of es)

abbrev pub bytes_from : ℕ → List ℕ → List Byte
bytes_from va [] = []
bytes_from va (b ∷ bs) = (va, b) ∷ bytes_from (va + 1) bs

abbrev pub bytes_of_stretches : List Stretch → List Byte
bytes_of_stretches [] = []
bytes_of_stretches (s ∷ ss) = bytes_from s.va s.bytes ++ bytes_of_stretches ss

-- Each has a byte, and begins above the one before it, with a gap.
abbrev pub AreStretches : ℕ → List Stretch → Type 0
AreStretches least [] = Unit {0}
AreStretches least (s ∷ ss) =
    (least ≤ s.va) × (1 ≤ length s.bytes) × AreStretches (s.va + length s.bytes + 1) ss
