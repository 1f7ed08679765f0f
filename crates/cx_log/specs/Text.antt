-- The spelling of a recording.
use Rattle.std.specs.Prelude.{ℕ, zero, suc, ◌+◌, ◌-◌, ◌==◌, Bool, List, [], ◌∷◌, ◌++◌, length, if◌then◌else◌, codes}
use Rattle.std.specs.Int.{w32, to_le_bytes}
use Rattle.std.specs.List.{flat_map}
use Rattle.cx_csr.specs.Words.{words_of}
use Rattle.cx_codec.specs.Varint.{varint}
use Rattle.cx_ram.specs.PhysicalMemory.{is_zero, page_of}
use Rattle.cx_log.specs.declared.header.Header.{Header}
use Rattle.cx_log.specs.Kind.{kind_of, tag_of}
use Rattle.cx_log.specs.Recording.{Event, Mark, Dma, Lines, Value, Recorded, Recording}

-- the four bytes that a recording begins with
abbrev pub magic : List ℕ
magic = codes "CXR1"

abbrev pub words_text : List ℕ → List ℕ
words_text words = flat_map (to_le_bytes w32) words

-- What announces version 2: 0, which is no number of pages in version 1, and the flag of the hart.
abbrev pub version_text : ℕ → Bool → List ℕ
version_text version split = if version == 1 then [] else 0 ∷ (if split then 1 else 0) ∷ []

-- what stands between the magic and the pages, and says how many of these there are
abbrev pub behind_magic : Header → List ℕ
behind_magic h =
    version_text h.version h.split
    ++ (varint h.pages ++ (varint h.base ++ (words_text (words_of h.start) ++ varint h.count)))

unfoldable pub header_text : Header → List ℕ
header_text h = magic ++ behind_magic h

-- a page that isn't all zero: its number and its bytes
abbrev pub page_text : List ℕ → ℕ → List ℕ
page_text memory number = if is_zero (page_of memory number) then [] else varint number ++ page_of memory number

-- how many of the pages below a number aren't all zero
abbrev pub page_count : List ℕ → ℕ → ℕ
page_count memory zero = 0
page_count memory (suc n) = page_count memory n + (if is_zero (page_of memory n) then 0 else 1)

-- the pages below a number, in rising order
abbrev pub pages_text : List ℕ → ℕ → List ℕ
pages_text memory zero = []
pages_text memory (suc n) = pages_text memory n ++ page_text memory n

abbrev pub payload : Event → List ℕ
payload (Dma t) = to_le_bytes w32 t.place ++ (varint (length t.bytes) ++ t.bytes)
payload (Lines lines) = to_le_bytes w32 lines.0
payload (Value v) = to_le_bytes w32 v
payload Mark = []

-- A record behind one at a step before, or behind base: its tag, how far it is from there, and what its event holds.
unfoldable pub record_text : ℕ → Recorded → List ℕ
record_text before r = tag_of (kind_of r.event) ∷ (varint (r.step - before) ++ payload r.event)

-- End holds nothing more
unfoldable pub end_text : ℕ → ℕ → List ℕ
end_text before end = 0 ∷ varint (end - before)

abbrev pub records_text : ℕ → List Recorded → ℕ → List ℕ
records_text before [] end = end_text before end
records_text before (r ∷ events) end = record_text before r ++ records_text r.step events end

-- what stands in front of a recording's pages
abbrev pub header_of : Recording → Header
header_of R = record {
  version = R.version;
  split = R.split;
  pages = R.pages;
  base = R.base;
  start = R.start;
  count = page_count R.memory R.pages;
}

unfoldable pub recording_text : Recording → List ℕ
recording_text R = header_text (header_of R) ++ (pages_text R.memory R.pages ++ records_text R.base R.events R.end)
