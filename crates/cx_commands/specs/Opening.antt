-- What stands before the records of a recording, up to where they begin.
use Rattle.std.specs.Prelude.{ℕ, zero, suc, ◌+◌, ◌*◌, List, replicate, codes, Ok, if◌then◌else◌}
use Rattle.std.specs.Str.{bytes_eq}
use Rattle.cx_map.specs.Map.{size_of_pages}
use Rattle.cx_map.specs.declared.TheConstants.{PAGE_SIZE}
use Rattle.cx_codec.specs.Fields.{bytes_at}
use Rattle.cx_codec.specs.Place.{Place, Reader, ◌>>=◌, bad, done, here, read_on}
use Rattle.cx_ram.specs.LittleEndian.{written}
use Rattle.cx_log.specs.Engine.{begin_behind, opened_header_at}
use Rattle.cx_log.specs.Reading.{Opened, opened_at, page_at}
use Rattle.cx_log.specs.Order.{at_start}
use Rattle.cx_log.specs.Scan.{Scan, begin_records, scan}
use Rattle.cx_log.specs.declared.header.Header.{Header}
use Rattle.cx_commands.specs.declared.magic.Magic.{Magic}
use Rattle.cx_commands.specs.declared.magic.Magic.TheVariants as kind

-- a value at the place where the records begin
abbrev pub then_records : {Y : Type 0} → Y → Reader Y
then_records y p = Ok (y, begin_records p)

-- the header and the memory of its pages, and the place where the records begin
unfoldable pub begun_at : Reader Opened
begun_at = do
  opened ← opened_at
  then_records opened

-- the records from there
abbrev pub scan_from : Opened → Place → Scan
scan_from o p = scan o.header.pages (at_start o.header.base o.header.start) p

-- ---- part by part

-- what the first four bytes, from a start on, say that an input is
abbrev pub magic_by : ℕ → List ℕ → Reader Magic
magic_by start bytes =
    if bytes_eq bytes (codes "CXR1") then done kind.Recording else
    if bytes_eq bytes (codes "CXP1") then done kind.Process else
    if bytes_eq bytes (codes "CXC1") then done kind.Calls else bad start

unfoldable pub kind_at : Reader Magic
kind_at = do
  start ← here
  bytes ← bytes_at 4
  magic_by start bytes

-- The pages that are left, put into a memory. Behind the last the records begin.
abbrev pub turned_pages_at : ℕ → ℕ → ℕ → List ℕ → Reader (List ℕ)
turned_pages_at pages zero least memory = done memory
turned_pages_at pages (suc left) least memory = do
  page ← page_at pages least
  begun ← begin_behind left
  turned_pages_at pages left (page.number + 1) (written memory (page.number * PAGE_SIZE) page.bytes)

abbrev pub with_memory : Header → List ℕ → Opened
with_memory header memory = record { header = header; memory = memory }

-- the pages behind a header
abbrev pub filled_at : Header → Reader Opened
filled_at header p =
    read_on (turned_pages_at header.pages header.count 0 (replicate (size_of_pages header.pages) 0) p)
    (λ memory. done (with_memory header memory))

-- what stands behind the magic of a recording
abbrev pub behind_magic_at : Reader Opened
behind_magic_at p = read_on (opened_header_at p) filled_at

-- what an input is that begins with this, if it should be a recording
abbrev pub behind_kind : ℕ → Magic → Reader Opened
behind_kind start kind.Recording = behind_magic_at
behind_kind start kind.Process = bad start
behind_kind start kind.Calls = bad start
