-- Places of RAM, by page and offset.
use Rattle.std.proofs.Common.{◌≡◌, ℕ, ◌+◌, ◌*◌, ◌%◌, ◌<◌, ◌≤◌, List, [], ◌∙◌, length, get_or, set}
use Rattle.std.proofs.Common.{All, sym, ap, subst, arith}
use Rattle.std.specs.List.{concat, splice}
use Rattle.cx_map.specs.declared.TheConstants.{PAGE_SIZE, RAM_START}
use Rattle.cx_map.specs.Map.{IsInRam, ram_index, size_of_pages}
use Rattle.cx_pages.specs.Frames.{IsWhole}
use Rattle.cx_ram.specs.LittleEndian.{loaded, written}
use Rattle.cx_ram.specs.PhysicalMemory.{IsInOnePage, page_at}
use Rattle.cx_ram.proofs.JoinedPages.{length-joined, loaded-joined, written-joined}

-- The index of a place.
index_is : (pa : ℕ) → RAM_START ≤ pa → page_at pa * PAGE_SIZE + pa % PAGE_SIZE ≡ ram_index pa
index_is pa low = omega arith

module _ (pages : List (List ℕ)) (memory : List ℕ) (pa len : ℕ) (joined : concat pages ≡ memory)
    (whole : All IsWhole pages) (ram : IsInRam (length memory) pa len) (some : 1 ≤ len) where
  -- The page of a place of RAM is there.
  pub page_there : page_at pa < length pages
  page_there =
      let size : length memory ≡ size_of_pages (length pages) = subst (λ (l : List ℕ). length l ≡ size_of_pages
      (length pages)) joined (length-joined pages whole) in
      omega (arith, ram.low, ram.high)

  -- A load there.
  pub loaded_in_page : IsInOnePage pa len → loaded (get_or pages (page_at pa) []) (pa % PAGE_SIZE) len
      ≡ loaded memory (ram_index pa) len
  loaded_in_page one =
      sym (loaded-joined pages (page_at pa) (pa % PAGE_SIZE) len whole page_there one)
      ∙ ap (λ (l : List ℕ). loaded l (page_at pa * PAGE_SIZE + pa % PAGE_SIZE) len) joined
      ∙ ap (λ (i : ℕ). loaded memory i len) (index_is pa ram.low)

-- A write there.
pub written_in_page : (pages : List (List ℕ)) (memory : List ℕ) (pa : ℕ) (bytes : List ℕ) → concat pages ≡ memory
    → All IsWhole pages → IsInRam (length memory) pa (length bytes) → 1 ≤ length bytes → IsInOnePage pa (length bytes)
    → concat (set pages (page_at pa) (splice (get_or pages (page_at pa) []) (pa % PAGE_SIZE)
    (pa % PAGE_SIZE + length bytes) bytes))
    ≡ written memory (ram_index pa) bytes
written_in_page pages memory pa bytes joined whole ram some one =
    written-joined pages (page_at pa) (pa % PAGE_SIZE) bytes whole
    (page_there pages memory pa (length bytes) joined whole ram some) one
    ∙ ap (λ (l : List ℕ). written l (page_at pa * PAGE_SIZE + pa % PAGE_SIZE) bytes) joined
    ∙ ap (λ (i : ℕ). written memory i bytes) (index_is pa ram.low)
