-- What contracts see of a pool: a current memory, memories that were saved, and two counts of frames.
use Rattle.std.specs.Prelude.{◌≡◌, ◌≢◌, ◌⊎◌, ◌↔◌, ℕ, ◌+◌, ◌≤◌, List, [], length, get_or, replicate, slice_index}
use Rattle.std.specs.Prelude.{◌∷◌, ◌++◌, slice_set, Option, Some, None, IsSome, All, cond, eqb}
use Rattle.std.specs.List.{flat_map, list_any}
use Rattle.cx_pages.specs.Frames.{zero_page, IsWhole}

-- The pages of a memory, each a list of 4,096 bytes, and a stamp for each. The stamp of a page is 0 as long as nothing
-- was written to it. The first write to a page that is shared gives it a stamp that no saved memory has there.
pub record Memory : Type 0 where
  pub pages : List (List ℕ)
  pub stamps : List ℕ

-- The current memory, the saved ones by their numbers, how many frames are used, and how many more can be without
-- taking memory.
pub record Memories : Type 0 where
  pub current : Memory
  pub saved : List (Option Memory)
  pub used : ℕ
  pub spare : ℕ

-- the bytes of a page
abbrev pub page_of : Memory → ℕ → List ℕ
page_of memory page = get_or memory.pages page []

-- how many pages a memory has
abbrev pub page_count : Memory → ℕ
page_count memory = length memory.pages

-- the memory that was saved under a number, if it is still there
abbrev pub saved_at : Memories → ℕ → Option Memory
saved_at m number = get_or m.saved number None

-- A memory is saved under this number.
abbrev pub IsLive : Memories → ℕ → Type 0
IsLive m number = IsSome (saved_at m number)

-- A saved memory has the page as the current memory has it, with the same stamp.
pub record IsKept (m : Memories) (page : ℕ) : Type 0 where
  pub number : ℕ
  pub memory : Memory
  pub live : saved_at m number ≡ Some memory
  pub alike : slice_index memory.stamps page ≡ slice_index m.current.stamps page

-- The page has no frame of its own: nothing was written to it yet, or a saved memory has it too.
abbrev pub IsShared : Memories → ℕ → Type 0
IsShared m page = (slice_index m.current.stamps page ≡ 0) ⊎ IsKept m page

-- a memory of zeros to which nothing was written
abbrev pub zeros : ℕ → Memory
zeros count = record { pages = replicate count zero_page; stamps = replicate count 0 }

-- Each page has 4,096 bytes.
abbrev pub AreWhole : Memory → Type 0
AreWhole memory = All IsWhole memory.pages

-- Each saved memory has as many pages as the current one, and they are whole.
abbrev pub AreSavedWhole : Memories → Type 0
AreSavedWhole m = (number : ℕ) (memory : Memory) → saved_at m number ≡ Some memory → AreWhole memory
    × (page_count memory ≡ page_count m.current)

-- The pool after a write to a page: the page has a frame of its own, which was taken where it was shared before.
pub record HasOwn (page : ℕ) (old new : Memories) : Type 0 where
  pub saved : new.saved ≡ old.saved
  pub stamps : new.current.stamps ≡ slice_set old.current.stamps page (slice_index new.current.stamps page)
  pub own : ¬ IsShared new page
  pub first : IsShared old page → (new.used ≡ old.used + 1) × (new.spare + 1 ≡ old.spare)
  pub again : ¬ IsShared old page → (new.current.stamps ≡ old.current.stamps) × (new.used ≡ old.used)
      × (new.spare ≡ old.spare)

-- The other pages are shared as before.
abbrev pub SharedBeside : ℕ → Memories → Memories → Type 0
SharedBeside page old new = (other : ℕ) → other ≢ page → IsShared new other ↔ IsShared old other

-- The memories that are saved are the same, but under this number.
abbrev pub SameOthers : {M : Type 0} → ℕ → List (Option M) → List (Option M) → Type 0
SameOthers number old new = (other : ℕ) → other ≢ number → get_or new other None ≡ get_or old other None

-- 1 for a number other than 0 that isn't in the list
unfoldable pub is_new : ℕ → List ℕ → ℕ
is_new x xs = cond (eqb x 0) 0 (cond (list_any (λ y. eqb y x) xs) 0 1)

-- how many numbers other than 0 a list has, each counted once
unfoldable pub distinct_count : List ℕ → ℕ
distinct_count [] = 0
distinct_count (x ∷ xs) = is_new x xs + distinct_count xs

-- the stamps of a saved memory, if there is one
abbrev pub stamps_in : Option Memory → List ℕ
stamps_in None = []
stamps_in (Some memory) = memory.stamps

-- how many frames the memories have: one for each stamp other than 0
abbrev pub stamp_count : Memories → ℕ
stamp_count m = distinct_count (m.current.stamps ++ flat_map stamps_in m.saved)

-- No frame was taken, and those that no memory has any more are spare: so many are used and spare, then so many.
pub record GivesBack (used spare used' spare' : ℕ) : Type 0 where
  pub fewer : used' ≤ used
  pub more : spare ≤ spare'
  pub sum : used' + spare' ≡ used + spare
