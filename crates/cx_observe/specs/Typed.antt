-- What the types of an observation say of its numbers.
use Rattle.std.specs.Prelude.{◌≡◌, ℕ, ◌^◌, ◌<◌, length, get_or, IfSome}
use Rattle.cx_observe.specs.declared.obs.Obs.{Obs}
use Rattle.cx_observe.specs.declared.obs.Seen.{Seen}

-- four bytes
pub record IsFour (s : Seen) : Type 0 where
  pub size : length s.bytes ≡ 4
  pub fit : (k : ℕ) → get_or s.bytes k 0 < 256

-- four bytes at an address of 32 bits
pub record IsTypedSeen (s : Seen) : Type 0 where
  pub va : s.va < 2 ^ 32
  pub size : length s.bytes ≡ 4
  pub fit : (k : ℕ) → get_or s.bytes k 0 < 256

pub record IsTyped (o : Obs) : Type 0 where
  pub pc : o.pc < 2 ^ 32
  pub count : length o.x ≡ 32
  pub words : (k : ℕ) → get_or o.x k 0 < 2 ^ 32
  pub word : o.word < 2 ^ 32
  pub value : IfSome o.value (λ v. v < 2 ^ 32)
  pub read : IfSome o.read IsTypedSeen
  pub write : IfSome o.write IsFour
