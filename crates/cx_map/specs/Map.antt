-- Where RAM lies, and its pages. Bytes of RAM are told by their place, or by their index, which counts from RAM's first
-- byte.
use Rattle.std.specs.Prelude.{ℕ, ◌+◌, ◌-◌, ◌*◌, ◌≤◌}
use Rattle.cx_map.specs.declared.TheConstants.{RAM_START, PAGE_SIZE, MOST_PAGES}

-- the index of the byte at a place
abbrev pub ram_index : ℕ → ℕ
ram_index place = place - RAM_START

-- how many bytes so many pages have
abbrev pub size_of_pages : ℕ → ℕ
size_of_pages pages = pages * PAGE_SIZE

-- The len bytes from a place on all lie in RAM of so many bytes.
pub record IsInRam (size place len : ℕ) : Type 0 where
  pub low : RAM_START ≤ place
  pub high : place + len ≤ RAM_START + size

-- RAM has 1 to 262,144 pages.
pub record IsPageCount (pages : ℕ) : Type 0 where
  pub some : 1 ≤ pages
  pub most : pages ≤ MOST_PAGES
