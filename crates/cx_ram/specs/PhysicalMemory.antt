-- What contracts see of the physical memory, and its pages.
use Rattle.std.specs.Prelude.{◌≡◌, ℕ, ◌+◌, ◌*◌, ◌%◌, ◌==◌, ◌≤◌, Bool, List, length, take, drop, get_or, Option, Some}
use Rattle.std.specs.Prelude.{None, IsSome, [], map, ◌-◌, ◌/◌}
use Rattle.std.specs.List.{list_all}
use Rattle.std.specs.Option.{option_map}
use Rattle.cx_map.specs.declared.TheConstants.{PAGE_SIZE, RAM_START}
use Rattle.cx_map.specs.Bytes.{AreBytes}
use Rattle.cx_pages.specs.Memories.{Memory, Memories, HasOwn, SharedBeside, IsShared as IsSharedPage}

-- The bytes of RAM in order as they were saved, and the stamps of its pages.
pub record SavedMemory : Type 0 where
  pub memory : List ℕ
  pub stamps : List ℕ

-- The bytes of RAM in order, a stamp for each page, the memories that were saved by their numbers, how many frames are
-- used, and how many more can be without taking memory. Stamps tell which pages share their frames: that of a page is
-- 0 as long as nothing was written to it, and the first write to a page that is shared gives it one that no saved
-- memory has there.
pub record PhysicalMemory : Type 0 where
  pub memory : List ℕ
  pub stamps : List ℕ
  pub saved : List (Option SavedMemory)
  pub used : ℕ
  pub spare : ℕ

-- the memory that was saved under a number, if it is still there
abbrev pub saved_at : PhysicalMemory → ℕ → Option SavedMemory
saved_at m number = get_or m.saved number None

-- A memory is saved under this number.
abbrev pub IsLive : PhysicalMemory → ℕ → Type 0
IsLive m number = IsSome (saved_at m number)

-- what there is to save
abbrev pub now_of : PhysicalMemory → SavedMemory
now_of m = record { memory = m.memory; stamps = m.stamps }

-- a saved memory by its stamps alone
abbrev pub stamped : SavedMemory → Memory
stamped s = record { pages = []; stamps = s.stamps }

-- the pool that has these stamps and counts, without the bytes
abbrev pub frames_of : PhysicalMemory → Memories
frames_of m = record {
  current = record { pages = []; stamps = m.stamps };
  saved = map (option_map stamped) m.saved;
  used = m.used;
  spare = m.spare;
}

-- The page has no frame of its own.
abbrev pub IsShared : PhysicalMemory → ℕ → Type 0
IsShared m page = IsSharedPage (frames_of m) page

-- the page of a place
abbrev pub page_at : ℕ → ℕ
page_at pa = (pa - RAM_START) / PAGE_SIZE

-- RAM after a write to a page: the page has a frame of its own, which was taken where it was shared before, and the
-- others are shared as before.
abbrev pub HasOwnPage : ℕ → PhysicalMemory → PhysicalMemory → Type 0
HasOwnPage page old new = HasOwn page (frames_of old) (frames_of new) × SharedBeside page (frames_of old)
    (frames_of new)

-- Each saved memory has as many bytes as RAM.
abbrev pub AreSavedBytes : PhysicalMemory → Type 0
AreSavedBytes m = (number : ℕ) (s : SavedMemory) → saved_at m number ≡ Some s → AreBytes s.memory × (length s.memory
    ≡ length m.memory)

-- The len bytes from a place on lie in one page.
abbrev pub IsInOnePage : ℕ → ℕ → Type 0
IsInOnePage place len = place % PAGE_SIZE + len ≤ PAGE_SIZE

-- A load or a store moves 1 to 4 bytes: three are a part of an access that goes on in the next page.
abbrev pub IsAccessLength : ℕ → Type 0
IsAccessLength len = (1 ≤ len) × (len ≤ 4)

-- RAM has the page of this number, counted from 0.
abbrev pub IsPage : List ℕ → ℕ → Type 0
IsPage memory page = page * PAGE_SIZE + PAGE_SIZE ≤ length memory

-- the bytes of a page
abbrev pub page_of : List ℕ → ℕ → List ℕ
page_of memory page = take PAGE_SIZE (drop (page * PAGE_SIZE) memory)

-- each of these bytes is 0
abbrev pub is_zero : List ℕ → Bool
is_zero bytes = list_all (λ b. b == 0) bytes
