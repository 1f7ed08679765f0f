-- What a write of a whole page does to the pages.
use Rattle.std.proofs.Common.{◌≡◌, ◌≢◌, ◌⊎◌, ℕ, ◌+◌, ◌-◌, ◌*◌, ◌<◌, ◌≤◌, min, List, ◌++◌, length, take, drop, sym, ap}
use Rattle.std.proofs.Common.{◌∙◌, arith, length-take, length-drop}
use Rattle.std.specs.Prelude.{slice_index}
use Rattle.std.proofs.lemmas.Grind.{same_number_lists}
use Rattle.std.proofs.lemmas.List.{drop_at, take_at, get_or-take, get_or-drop}
use Rattle.cx_map.specs.declared.TheConstants.{PAGE_SIZE}
use Rattle.cx_ram.specs.LittleEndian.{written}
use Rattle.cx_ram.specs.PhysicalMemory.{IsPage, page_of}
use Rattle.cx_ram.proofs.LoadsAndWrites.{length-written, slice_index-written_outside}

pub page_of-written : (m : List ℕ) (page : ℕ) (bytes : List ℕ) → IsPage m page → length bytes ≡ PAGE_SIZE
    → page_of (written m (page * PAGE_SIZE) bytes) page ≡ bytes
unfolding written
page_of-written m page bytes there whole =
    let front : length (take (page * PAGE_SIZE) m) ≡ page * PAGE_SIZE =
    omega (arith, length-take (page * PAGE_SIZE) m) in
    rw (drop_at (take (page * PAGE_SIZE) m) (bytes ++ drop (page * PAGE_SIZE + length bytes) m) (page * PAGE_SIZE)
    front)
    (take_at bytes (drop (page * PAGE_SIZE + length bytes) m) PAGE_SIZE whole)

pub slice_index-page_of : (m : List ℕ) (page k : ℕ) → k < PAGE_SIZE → slice_index (page_of m page) k ≡ slice_index m
    (page * PAGE_SIZE + k)
slice_index-page_of m page k within = (get_or-take PAGE_SIZE (drop (page * PAGE_SIZE) m) k 0 within
    ∙ get_or-drop (page * PAGE_SIZE) m k 0)

length-page_of : (m : List ℕ) (page : ℕ) → length (page_of m page) ≡ min PAGE_SIZE (length m - page * PAGE_SIZE)
length-page_of m page = (length-take PAGE_SIZE (drop (page * PAGE_SIZE) m)
    ∙ ap (min PAGE_SIZE) (length-drop (page * PAGE_SIZE) m))

-- A byte of another page lies before a page or after it.
outside_page : (page other k : ℕ) → other ≢ page → k < PAGE_SIZE → (other * PAGE_SIZE + k < page * PAGE_SIZE)
    ⊎ (page * PAGE_SIZE + PAGE_SIZE ≤ other * PAGE_SIZE + k)
outside_page page other k apart within = grind arith

pub page_of-written_other : (m : List ℕ) (page : ℕ) (bytes : List ℕ) (other : ℕ) → IsPage m page
    → length bytes ≡ PAGE_SIZE → other ≢ page
    → page_of (written m (page * PAGE_SIZE) bytes) other ≡ page_of m other
page_of-written_other m page bytes other there whole apart =
    let now : List ℕ = written m (page * PAGE_SIZE) bytes in
    let within : page * PAGE_SIZE + length bytes ≤ length m = omega arith in
    let size : length now ≡ length m = length-written m (page * PAGE_SIZE) bytes within in
    let lengths : length (page_of now other) ≡ length (page_of m other) =
    omega (arith, length-page_of now other, length-page_of m other) in
    same_number_lists (page_of now other) (page_of m other) lengths
    (λ k below. let inside : k < PAGE_SIZE = omega (arith, length-page_of now other) in
    let outside : (other * PAGE_SIZE + k < page * PAGE_SIZE)
    ⊎ (page * PAGE_SIZE + length bytes ≤ other * PAGE_SIZE + k) = rw whole (outside_page page other k apart inside)
    in
    slice_index-page_of now other k inside ∙ slice_index-written_outside m (page * PAGE_SIZE) bytes
    (other * PAGE_SIZE + k) within outside
    ∙ sym (slice_index-page_of m other k inside))
