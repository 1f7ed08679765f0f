-- The window that is cut from a run.
use Rattle.std.specs.Prelude.{◌≡◌, ℕ, Bool, false, List, [], get_or, length, slice_index_or, Option, None, Some, IfSome}
use Rattle.cx_hart.specs.Whole.{AtMoment, IsLive, Whole}
use Rattle.cx_log.specs.Order.{InOrder, IsHeader, at_start}
use Rattle.cx_log.specs.Reading.{Opened}
use Rattle.cx_log.specs.Recording.{Recorded, Recording}
use Rattle.cx_log.specs.declared.header.Header.{Header}
use Rattle.cx_map.specs.Map.{size_of_pages}
use Rattle.cx_ram.specs.PhysicalMemory.{SavedMemory}
use Rattle.cx_run.specs.Window.{kept_pages}
use Rattle.cx_window.specs.Slicing.{Slicing}

-- What stands in front of its pages, but for their count; the step behind its last; the memory before its first step;
-- for each page whether its steps read it; and their events.
pub record Sliced : Type 0 where
  pub header : Header
  pub to : ℕ
  pub memory : List ℕ
  pub marks : List Bool
  pub events : List Recorded

abbrev pub is_marked : List Bool → ℕ → Bool
is_marked marks page = slice_index_or marks page false

-- the recording that is written of it
abbrev pub written_of : Sliced → Recording
written_of s = record {
  version = s.header.version;
  split = s.header.split;
  pages = s.header.pages;
  base = s.header.base;
  start = s.header.start;
  memory = kept_pages (is_marked s.marks) s.memory s.header.pages;
  events = s.events;
  end = s.to;
}

-- what makes a slice fit to be written: its sizes, and the rules of its recording
pub record IsWhole (s : Sliced) : Type 0 where
  pub header : IsHeader s.header
  pub memory : length s.memory ≡ size_of_pages s.header.pages
  pub marks : length s.marks ≡ s.header.pages
  pub order : InOrder s.header.pages (at_start s.header.base s.header.start) s.events s.to

-- the memory of a moment
abbrev pub memory_at : List (Option SavedMemory) → AtMoment → List ℕ
memory_at saved x = elim (get_or saved x.snap None) [ None ↦ [] | Some s ↦ s.memory ]

-- The machine can be put back to the moment before the first step of a recording with this header.
pub record IsHeld (header : Header) (machine : Whole) (x : AtMoment) : Type 0 where
  pub live : IsLive machine.saved x
  pub state : x.state ≡ header.start
  pub split : machine.split ≡ header.split
  pub size : length machine.memory ≡ size_of_pages header.pages

-- what was kept, of a recording with this header
abbrev pub slice_of : Header → List (Option SavedMemory) → Slicing → AtMoment → Sliced
slice_of header saved s x = record {
  header = record header { base = s.from; start = x.state };
  to = s.to;
  memory = memory_at saved x;
  marks = s.marks;
  events = s.events;
}

-- It is finished to this slice: there is one exactly where the machine before the first step was kept, and the events
-- are in order.
abbrev pub Finishes : Header → List (Option SavedMemory) → Slicing → Option Sliced → Type 0
Finishes header saved s None =
    IfSome s.moment (λ x. InOrder header.pages (at_start s.from x.state) s.events s.to → ⊥)
Finishes header saved s (Some slice) =
    (x : AtMoment) × ((s.moment ≡ Some x) × (slice ≡ slice_of header saved s x))

-- the header and the memory of its steps, run again
abbrev pub opened_of : Sliced → Opened
opened_of s = record { header = s.header; memory = s.memory }
