-- The pages that steps read, as they are marked.
use Rattle.std.specs.Prelude.{◌≡◌, ℕ, ◌<◌, Bool, false, ◌||◌, List, length, slice_index_or}
use Rattle.cx_run.specs.Window.{any_in_page}

-- Of the pages with a mark, those with one of these bytes of RAM were marked, and the others have the mark that they
-- had.
pub record AddsMarks (old new : List Bool) (indices : List ℕ) : Type 0 where
  pub size : length new ≡ length old
  pub pages : (k : ℕ) → k < length old
      → slice_index_or new k false ≡ (slice_index_or old k false || any_in_page indices k)
