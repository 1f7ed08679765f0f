-- What contracts see of a sink in memory.
use Rattle.std.specs.Prelude.{ℕ, List}
use Rattle.cx_io.specs.Plan.{Plan}

-- The bytes that it took, and which of its calls fail.
pub record MemoryOutput : Type 0 where
  pub held : List ℕ
  pub plan : Plan
