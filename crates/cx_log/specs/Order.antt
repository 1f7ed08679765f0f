-- The rules that a recording keeps.
use Rattle.std.specs.Prelude.{◌≡◌, ◌≢◌, ℕ, ◌+◌, ◌*◌, ◌/◌, ◌^◌, ◌<◌, ◌≤◌, ◌⊎◌, Bool, false, List, [], ◌∷◌, length}
use Rattle.cx_map.specs.Map.{IsPageCount, size_of_pages}
use Rattle.cx_csr.specs.declared.lines.Lines as lines
use Rattle.cx_csr.specs.declared.state.State.{State}
use Rattle.cx_csr.specs.Keeps.{Keeps}
use Rattle.cx_machine.specs.Due.{AreLines}
use Rattle.cx_machine.specs.Machine.{IsMemory}
use Rattle.cx_machine.specs.Transfers.{IsTransfer}
use Rattle.cx_log.specs.declared.limits.TheConstants.{MARK_DISTANCE, MOST_TEXT, STEP_LIMIT}
use Rattle.cx_log.specs.declared.header.Header.{Header}
pub use Rattle.cx_log.specs.declared.order.Behind.{Behind}
use Rattle.cx_log.specs.declared.reading.Announced.{Announced}
use Rattle.cx_log.specs.Kind.{kind_of, rank_of}
use Rattle.cx_log.specs.Recording.{Event, Mark, Dma, Lines, Value, Recorded, Recording}
use Rattle.cx_log.specs.Text.{records_text}

-- the first step above this one at which a mark has to stand
abbrev pub next_mark : ℕ → ℕ
next_mark step = (step / MARK_DISTANCE + 1) * MARK_DISTANCE

abbrev pub rank : Event → ℕ
rank event = rank_of (kind_of event)

-- the least rank that may follow at the same step: only writes to RAM may come more than once
abbrev pub rank_behind : Event → ℕ
rank_behind Mark = 1
rank_behind (Dma t) = 1
rank_behind (Lines lines) = 3
rank_behind (Value v) = 4

-- before the first record
abbrev pub at_start : ℕ → State → Behind
at_start base start = record { step = base; least = 0; mark = next_mark base; lines = start.lines }

-- A mark stands where the next one has to, and any other record below that.
abbrev pub MarkRule : ℕ → ℕ → Event → Type 0
MarkRule mark step Mark = step ≡ mark
MarkRule mark step (Dma t) = step < mark
MarkRule mark step (Lines lines) = step < mark
MarkRule mark step (Value v) = step < mark

-- what an event may hold: bytes inside RAM, lines that change those that stand, a word
abbrev pub HoldsWell : ℕ → lines.Lines → Event → Type 0
HoldsWell pages standing Mark = Unit {0}
HoldsWell pages standing (Dma t) = IsTransfer (size_of_pages pages) t
HoldsWell pages standing (Lines lines) = AreLines lines × (lines ≢ standing)
HoldsWell pages standing (Value v) = v < 2 ^ 32

-- A record goes on from the last one: at a later step, or at the same one in order.
pub record MayFollow (pages : ℕ) (behind : Behind) (r : Recorded) : Type 0 where
  pub small : r.step < STEP_LIMIT
  pub order : (behind.step < r.step) ⊎ ((behind.step ≡ r.step) × (behind.least ≤ rank r.event))
  pub marks : MarkRule behind.mark r.step r.event
  pub holds : HoldsWell pages behind.lines r.event

-- what a record leaves
abbrev pub mark_behind : ℕ → Event → ℕ
mark_behind mark Mark = mark + MARK_DISTANCE
mark_behind mark _ = mark

abbrev pub lines_behind : lines.Lines → Event → lines.Lines
lines_behind standing (Lines lines) = lines
lines_behind standing _ = standing

abbrev pub behind_it : Behind → Recorded → Behind
behind_it behind r = record {
  step = r.step;
  least = rank_behind r.event;
  mark = mark_behind behind.mark r.event;
  lines = lines_behind behind.lines r.event;
}

-- End stands above base and the last record, with each mark below it
pub record MayEnd (behind : Behind) (end : ℕ) : Type 0 where
  pub small : end ≤ STEP_LIMIT
  pub above : behind.step < end
  pub marks : end ≤ behind.mark

abbrev pub InOrder : ℕ → Behind → List Recorded → ℕ → Type 0
InOrder pages behind [] end = MayEnd behind end
InOrder pages behind (r ∷ events) end = MayFollow pages behind r × InOrder pages (behind_it behind r) events end

-- version 1 has no flag
abbrev pub IsVersion : ℕ → Bool → Type 0
IsVersion version split = ((version ≡ 1) × (split ≡ false)) ⊎ (version ≡ 2)

-- what announces a version, a flag and a number of pages
pub record IsAnnounced (a : Announced) : Type 0 where
  pub version : IsVersion a.version a.split
  pub pages : IsPageCount a.pages

-- The rules of the format.
pub record KeepsRules (R : Recording) : Type 0 where
  pub version : IsVersion R.version R.split
  pub pages : IsPageCount R.pages
  pub base : R.base < STEP_LIMIT
  pub start : Keeps R.pages R.start
  pub memory : IsMemory R.pages R.memory
  pub events : InOrder R.pages (at_start R.base R.start) R.events R.end
  pub size : length (records_text R.base R.events R.end) ≤ MOST_TEXT

-- what stands in front of a recording's pages
pub record IsHeader (header : Header) : Type 0 where
  pub version : IsVersion header.version header.split
  pub pages : IsPageCount header.pages
  pub base : header.base < STEP_LIMIT
  pub start : Keeps header.pages header.start
  pub count : header.count ≤ header.pages
