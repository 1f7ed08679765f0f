-- What a world of a seed keeps from turn to turn, so that no turn divides.
use Rattle.std.specs.Prelude.{◌≡◌, ℕ, ◌+◌, ◌%◌}

-- It has the ticks of each answer, and the remainders by which the next one lets a byte come to the console and the
-- block device complete.
pub record KeepsRemainders (seed calls ticks console block : ℕ) : Type 0 where
  pub each : ticks ≡ 1 + seed % 3
  pub console_next : console ≡ (calls + seed) % 61
  pub block_next : block ≡ (calls + seed) % 37
