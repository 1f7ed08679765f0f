-- What contracts see of a source in memory.
use Rattle.std.specs.Prelude.{ℕ, List}
use Rattle.cx_io.specs.Plan.{Plan}

-- The bytes that its reads will still give, those that they gave, and which of its calls fail.
pub record MemoryInput : Type 0 where
  pub left : List ℕ
  pub given : List ℕ
  pub plan : Plan
