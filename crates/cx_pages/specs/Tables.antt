-- Tables of frame numbers, one for each memory, with the number of a frame for each page.
use Rattle.std.specs.Prelude.{◌≡◌, ◌≢◌, ◌⊎◌, ℕ, ◌+◌, ◌-◌, ◌<◌, ◌≤◌, List, [], ◌∷◌, length, map, get_or, cond, eqb}
use Rattle.std.specs.Prelude.{Option, Some, None, All}
use Rattle.std.specs.List.{sum_by}
use Rattle.cx_map.specs.Map.{IsPageCount}
use Rattle.cx_pages.specs.declared.pool.TheConstants.{MOST_SAVED}
use Rattle.cx_pages.specs.Frames.{frame_of, zero_page}
use Rattle.cx_pages.specs.Counts.{Tally, count_of}
use Rattle.cx_pages.specs.Memories.{Memory, Memories}

-- 1 for the frame f
unfoldable pub is_frame : ℕ → ℕ → ℕ
is_frame f g = cond (eqb g f) 1 0

-- how many places of a table name the frame f
unfoldable pub names : ℕ → List ℕ → ℕ
names f table = sum_by (is_frame f) table

-- how many places of all these tables name it
unfoldable pub all_names : ℕ → List (List ℕ) → ℕ
all_names f tables = sum_by (names f) tables

-- The frame of zeros has two names more than the tables give it, so it is never written to and never free.
unfoldable pub extra_names : ℕ → ℕ
extra_names f = cond (eqb f 0) 2 0

-- the memory that a table stands for
abbrev pub memory_of : List (List ℕ) → List ℕ → Memory
memory_of frames table = record { pages = map (frame_of frames) table; stamps = table }

-- the memory that a saved table stands for; an empty table stands for none
abbrev pub saved_of : List (List ℕ) → List ℕ → Option Memory
saved_of frames [] = None
saved_of frames (f ∷ table) = Some (memory_of frames (f ∷ table))

-- what contracts see of the frames, the counts and the tables
abbrev pub memories_of : List (List ℕ) → Tally → List ℕ → List (List ℕ) → Memories
memories_of frames tally current tables = record {
  current = memory_of frames current;
  saved = map (saved_of frames) tables;
  used = length tally.counts - tally.spare - 1;
  spare = tally.spare;
}

-- Each frame of a table but that of zeros stands at the page that it belongs to.
abbrev pub AreAtHome : (ℕ → ℕ) → List ℕ → Type 0
AreAtHome home table = (i : ℕ) → i < length table → get_or table i 0 ≢ 0 → home (get_or table i 0) ≡ i

-- A frame belongs to one page.
pub record HaveHomes (current : List ℕ) (tables : List (List ℕ)) : Type 0 where
  pub home : ℕ → ℕ
  pub here : AreAtHome home current
  pub saved : All (AreAtHome home) tables

-- a table that stands for a memory of so many pages, or for none
abbrev pub IsTable : ℕ → List ℕ → Type 0
IsTable pages table = (table ≡ []) ⊎ (length table ≡ pages)

-- What is true of the frames, the counts and the tables of a pool.
pub record IsPool (frames : List (List ℕ)) (tally : Tally) (current : List ℕ) (tables : List (List ℕ)) : Type 0
  where
    pub zeros : frame_of frames 0 ≡ zero_page
    pub counted : (f : ℕ) → count_of tally.counts f ≡ extra_names f + names f current + all_names f tables
    pub some : tally.spare < length tally.counts
    pub covered : length tally.counts ≤ length frames
    pub size : IsPageCount (length current)
    pub sizes : All (IsTable (length current)) tables
    pub few : length tables ≤ MOST_SAVED
    pub homes : HaveHomes current tables
