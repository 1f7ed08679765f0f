-- Counts of frames, and the frames that are free.
use Rattle.std.specs.Prelude.{◌≡◌, ℕ, ◌+◌, ◌^◌, ◌<◌, ◌≤◌, List, length, get_or, cond, eqb}
use Rattle.std.specs.List.{sum_by}

-- A count for each frame, and how many of them are 0.
pub record Tally : Type 0 where
  pub counts : List ℕ
  pub spare : ℕ

-- the count of a frame, 0 for one that isn't there
abbrev pub count_of : List ℕ → ℕ → ℕ
count_of counts f = get_or counts f 0

-- 1 for a count that isn't 0
unfoldable pub taken : ℕ → ℕ
taken count = cond (eqb count 0) 0 1

-- how many counts aren't 0
unfoldable pub taken_count : List ℕ → ℕ
taken_count counts = sum_by taken counts

-- The first entries of the list of free frames, one for each spare frame, are distinct frames whose count is 0.
pub record IsTally (counts free : List ℕ) (spare : ℕ) : Type 0 where
  pub room : length counts ≤ length free
  pub balance : taken_count counts + spare ≡ length counts
  pub here : (i : ℕ) → i < spare → get_or free i 0 < length counts
  pub unused : (i : ℕ) → i < spare → count_of counts (get_or free i 0) ≡ 0
  pub apart : (i j : ℕ) → i < spare → j < spare → get_or free i 0 ≡ get_or free j 0 → i ≡ j
  pub most : length counts < 2 ^ 32
