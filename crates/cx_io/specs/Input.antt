-- What a source tells of the bytes that it has left and those that it gave.
use Rattle.std.specs.Prelude.{◌≡◌, ℕ, List, ◌++◌, take, Option, None, Some, Result, Ok, Err}
use Rattle.cx_io.specs.declared.outside.Failed.{Failed}
use Rattle.cx_map.specs.Bytes.{AreBytes}

-- Where the source tells the bytes left, a read that gave some puts them behind those given before, and a failed read
-- gave none.
abbrev pub GivesMore : Option (List ℕ) → List ℕ → List ℕ → Result ℕ Failed → List ℕ → Type 0
GivesMore None before now answer buf = Unit {0}
GivesMore (Some left) before now (Ok n) buf = now ≡ before ++ take n buf
GivesMore (Some left) before now (Err failed) buf = now ≡ before

-- What is told are bytes.
abbrev pub AreTold : Option (List ℕ) → Type 0
AreTold None = Unit {0}
AreTold (Some bytes) = AreBytes bytes
