-- What the reader and the writer of a recording keep between two calls.
use Rattle.std.specs.Prelude.{◌≡◌, ℕ, zero, suc, ◌+◌, ◌≤◌, ◌<◌, Bool, false, IsTrue, List, min, Option, None, Some, Ok}
use Rattle.cx_codec.specs.Blocks.{Waiting}
use Rattle.cx_codec.specs.Place.{Buffered, Reader, ◌>>=◌, done}
use Rattle.cx_ram.specs.PhysicalMemory.{is_zero}
use Rattle.cx_log.specs.declared.header.Header.{Header}
use Rattle.cx_log.specs.declared.limits.TheConstants.{MARK_DISTANCE, MOST_TEXT, STEP_LIMIT}
use Rattle.cx_log.specs.declared.item.Item.{Item}
use Rattle.cx_log.specs.Item.{MayStand, behind_entry, entry_of, is_end}
use Rattle.cx_log.specs.Order.{Behind, IsHeader, at_start}
use Rattle.cx_log.specs.Reading.{Page, header_at, page_at}
use Rattle.cx_log.specs.Scan.{begin_records}

-- The input; the header that was read; how many pages are left, and the least number that the next may have; what the
-- records so far leave; the bytes of the last Dma; whether End was given.
pub record Reading : Type 0 where
  pub input : Buffered
  pub header : Header
  pub left : ℕ
  pub least : ℕ
  pub behind : Behind
  pub bytes : List ℕ
  pub ended : Bool

-- The output; the header that was written; how many pages are owed, and the least number that the next may have; what
-- the records so far leave.
pub record Writing : Type 0 where
  pub output : Waiting
  pub header : Header
  pub left : ℕ
  pub least : ℕ
  pub behind : Behind

-- a header that keeps the rules, pages below the count of RAM's, and steps that are small
pub record IsAmong (header : Header) (least : ℕ) (behind : Behind) : Type 0 where
  pub rules : IsHeader header
  pub page : least ≤ header.pages
  pub step : behind.step ≤ STEP_LIMIT
  pub mark : behind.mark ≤ STEP_LIMIT + MARK_DISTANCE

-- Behind the last page the records begin.
abbrev pub begin_behind : ℕ → Reader (Unit {0})
begin_behind zero p = Ok (tt, begin_records p)
begin_behind (suc left) p = Ok (tt, p)

-- what becomes of a reader there
abbrev pub begun_by : ℕ → Buffered → Buffered
begun_by zero b = record b { limit = min b.limit (b.at + MOST_TEXT) }
begun_by (suc left) b = b

-- the header, and the beginning of the records where no page follows
unfoldable pub opened_header_at : Reader Header
opened_header_at = do
  header ← header_at
  begun ← begin_behind header.count
  done header

-- the next of the pages that are left, or none behind the last; behind the last the records begin
unfoldable pub turned_page_at : ℕ → ℕ → ℕ → Reader (Option Page)
turned_page_at pages zero least = done None
turned_page_at pages (suc left) least = do
  page ← page_at pages least
  begun ← begin_behind left
  done (Some page)

-- a page's number, with these bytes
abbrev pub page_with : List ℕ → ℕ → Page
page_with bytes n = record { number = n; bytes = bytes }

abbrev pub option_page_with : List ℕ → Option ℕ → Option Page
option_page_with bytes None = None
option_page_with bytes (Some n) = Some (page_with bytes n)

-- a page of this number was read, with these bytes
pub record IsTurned (old new : Reading) (bytes : List ℕ) (n : ℕ) : Type 0 where
  pub rises : old.least ≤ n
  pub below : n < old.header.pages
  pub some : is_zero bytes ≡ false
  pub least : new.least ≡ n + 1
  pub left : new.left + 1 ≡ old.left

-- what next_page answered, with the page's bytes
abbrev pub Turns : Reading → Reading → List ℕ → Option ℕ → Type 0
Turns old new bytes None = (old.left ≡ 0) × (new ≡ old)
Turns old new bytes (Some n) = IsTurned old new bytes n

-- what stays while records are read
pub record SameRecording (old new : Reading) : Type 0 where
  pub header : new.header ≡ old.header
  pub left : new.left ≡ old.left
  pub least : new.least ≡ old.least

-- The item may stand behind the records before it, and those behind it know it.
pub record Gave (old new : Reading) (item : Item) : Type 0 where
  pub stands : MayStand old.header.pages old.behind (entry_of new.bytes item)
  pub behind : new.behind ≡ behind_entry old.behind (entry_of new.bytes item)
  pub ended : new.ended ≡ is_end item.what

abbrev pub header_read : Reading → Header
header_read r = r.header

abbrev pub input_of : Reading → Buffered
input_of r = r.input

-- a reader that stands behind the header that it read
pub record IsOpened (r : Reading) : Type 0 where
  pub left : r.left ≡ r.header.count
  pub least : r.least ≡ 0
  pub behind : r.behind ≡ at_start r.header.base r.header.start
  pub ended : r.ended ≡ false
  pub live : IsTrue r.input.live

abbrev pub output_of : Writing → Waiting
output_of w = w.output

-- a writer that stands behind the header that it wrote
pub record IsStarted (header : Header) (w : Writing) : Type 0 where
  pub header_is : w.header ≡ header
  pub left : w.left ≡ header.count
  pub least : w.least ≡ 0
  pub behind : w.behind ≡ at_start header.base header.start
