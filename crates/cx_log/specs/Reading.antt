-- How what stands before the records is read, field by field: each reader answers its value and the place behind it,
-- or the offset of the first bad field.
use Rattle.std.specs.Prelude.{ℕ, zero, suc, ◌+◌, ◌-◌, ◌*◌, ◌^◌, nat_le, ◌==◌, false, List, [], ◌∷◌, replicate}
use Rattle.std.specs.Prelude.{if◌then◌else◌}
use Rattle.std.specs.Str.{bytes_eq}
use Rattle.cx_map.specs.Map.{size_of_pages}
use Rattle.cx_map.specs.declared.TheConstants.{MOST_PAGES, PAGE_SIZE}
use Rattle.cx_csr.specs.Rules.{admits, rule_at}
use Rattle.cx_csr.specs.Words.{state_of}
use Rattle.cx_codec.specs.Place.{Place, Reader, ◌>>=◌, done, here, bad}
use Rattle.cx_codec.specs.Fields.{bytes_at, byte_at, word_at}
use Rattle.cx_ram.specs.LittleEndian.{written}
use Rattle.cx_ram.specs.PhysicalMemory.{is_zero}
use Rattle.cx_log.specs.declared.limits.TheConstants.{STEP_LIMIT}
use Rattle.cx_log.specs.declared.header.Header.{Header}
pub use Rattle.cx_log.specs.declared.reading.Announced.{Announced}
use Rattle.cx_codec.specs.Checks.{checked}
use Rattle.cx_log.specs.Fields.{varint_between}
use Rattle.cx_log.specs.Text.{magic}

-- the start of an input
abbrev pub start_of : List ℕ → Place
start_of bytes = record { at = 0; limit = 2 ^ 60; ahead = bytes }

-- the four bytes that a recording begins with, as one field
unfoldable pub magic_at : Reader (Unit {0})
magic_at = do
  start ← here
  bytes ← bytes_at 4
  if bytes_eq bytes magic then done tt else bad start

-- the flag of the hart: a byte, 0 or 1
abbrev pub flag_at : Reader ℕ
flag_at = checked (λ b. nat_le b 1) byte_at

-- what stands behind a number of pages of 0
unfoldable pub second_version_at : Reader Announced
second_version_at = do
  flag ← flag_at
  pages ← varint_between 1 MOST_PAGES
  done (record { version = 2; split = flag == 1; pages = pages })

-- what stands behind a first number of pages
abbrev pub announced_by : ℕ → Reader Announced
announced_by zero = second_version_at
announced_by (suc n) = done (record { version = 1; split = false; pages = suc n })

unfoldable pub announced_at : Reader Announced
announced_at = do
  first ← varint_between 0 MOST_PAGES
  announced_by first

-- n state words from number i on, each judged as it is read; before is the word in front of them
abbrev pub words_at : ℕ → ℕ → ℕ → ℕ → Reader (List ℕ)
words_at pages zero i before = done []
words_at pages (suc n) i before = do
  word ← checked (λ w. admits pages before (rule_at i) w) word_at
  rest ← words_at pages n (i + 1) word
  done (word ∷ rest)

-- the 58 words of a state
unfoldable pub state_words_at : ℕ → Reader (List ℕ)
state_words_at pages = words_at pages 58 0 0

-- what stands between the magic and the pages
unfoldable pub header_at : Reader Header
header_at = do
  announced ← announced_at
  base ← varint_between 0 (STEP_LIMIT - 1)
  words ← state_words_at announced.pages
  count ← varint_between 0 announced.pages
  done (record {
    version = announced.version;
    split = announced.split;
    pages = announced.pages;
    base = base;
    start = state_of words;
    count = count;
  })

-- a page's number, from a least one on, and its bytes, which aren't all zero
pub record Page : Type 0 where
  pub number : ℕ
  pub bytes : List ℕ

unfoldable pub page_bytes_at : Reader (List ℕ)
page_bytes_at = do
  start ← here
  bytes ← bytes_at PAGE_SIZE
  if is_zero bytes then bad start else done bytes

unfoldable pub page_at : ℕ → ℕ → Reader Page
page_at pages least = do
  number ← varint_between least (pages - 1)
  bytes ← page_bytes_at
  done (record { number = number; bytes = bytes })

-- so many pages, put into a memory
abbrev pub pages_at : ℕ → ℕ → ℕ → List ℕ → Reader (List ℕ)
pages_at pages zero least memory = done memory
pages_at pages (suc left) least memory = do
  page ← page_at pages least
  pages_at pages left (page.number + 1) (written memory (page.number * PAGE_SIZE) page.bytes)

-- what stands before the records
pub record Opened : Type 0 where
  pub header : Header
  pub memory : List ℕ

unfoldable pub opened_at : Reader Opened
opened_at = do
  begun ← magic_at
  header ← header_at
  memory ← pages_at header.pages header.count 0 (replicate (size_of_pages header.pages) 0)
  done (record { header = header; memory = memory })
