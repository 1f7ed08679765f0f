-- Forgetting each second checkpoint.
use Rattle.std.specs.Prelude.{◌≡◌, ℕ, ◌+◌, ◌*◌, ◌<◌, ◌≤◌, List, length, slice_get, Option, Some}
use Rattle.cx_hart.specs.Whole.{machine_at}
use Rattle.cx_ram.specs.PhysicalMemory.{SavedMemory}
use Rattle.cx_seek.specs.declared.checkpoint.Checkpoint.{Checkpoint}

-- Of the first ones each second was taken out, so many in all.
pub record IsThinned {X : Type 0} (removed : ℕ) (old new : List X) : Type 0 where
  pub count : length new + removed ≡ length old
  pub below : (j : ℕ) → j ≤ removed → slice_get new j ≡ slice_get old (2 * j)
  pub above : (j : ℕ) → removed < j → slice_get new j ≡ slice_get old (j + removed)

-- The moments that are still kept are what they were.
abbrev pub SameMoments : (old new : List (Option SavedMemory)) → List Checkpoint → Type 0
SameMoments old new checkpoints =
    (j : ℕ) (c : Checkpoint) → slice_get checkpoints j ≡ Some c → machine_at new c.moment ≡ machine_at old c.moment
