-- The text of the memory on the pages that are kept.
use Rattle.std.proofs.Common.{◌≡◌, ℕ, zero, suc, ◌+◌, ◌*◌, ◌<◌, ◌≤◌, List, [], ◌++◌, length, replicate, Bool, true}
use Rattle.std.proofs.Common.{false, if◌then◌else◌, refl, add-one}
use Rattle.cx_map.specs.declared.TheConstants.{PAGE_SIZE}
use Rattle.cx_ram.specs.PhysicalMemory.{page_of, is_zero}
use Rattle.cx_log.specs.Text.{page_text, page_count, pages_text}
use Rattle.cx_run.specs.Window.{kept_pages}
use Rattle.cx_run.proofs.KeptPages.{page_of-kept_pages}

is_zero-replicate : (n : ℕ) → is_zero (replicate n 0) ≡ true
is_zero-replicate zero = refl
is_zero-replicate (suc n) = is_zero-replicate n

-- A page counts where it is kept and isn't all zero.
pub is_zero-kept_pages : (keep : ℕ → Bool) (memory : List ℕ) (n k : ℕ) → n * PAGE_SIZE ≤ length memory → k < n
    → is_zero (page_of (kept_pages keep memory n) k) ≡ (if keep k then is_zero (page_of memory k) else true)
is_zero-kept_pages keep memory n k within below = rw (page_of-kept_pages keep memory n k within below) (cases (keep k))
  where
    cases : (b : Bool) → is_zero (if b then page_of memory k else replicate PAGE_SIZE 0)
        ≡ (if b then is_zero (page_of memory k) else true)
    cases true = refl
    cases false = is_zero-replicate PAGE_SIZE

text_cases : (b : Bool) (number page zeros : List ℕ) → is_zero zeros ≡ true
    → (if is_zero (if b then page else zeros) then [] else number ++ (if b then page else zeros))
    ≡ (if b then (if is_zero page then [] else number ++ page) else [])
text_cases true number page zeros none = refl
text_cases false number page zeros none = rw none refl

pub page_text-kept_pages : (keep : ℕ → Bool) (memory : List ℕ) (n k : ℕ) → n * PAGE_SIZE ≤ length memory → k < n
    → page_text (kept_pages keep memory n) k ≡ (if keep k then page_text memory k else [])
page_text-kept_pages keep memory n k within below =
    rw (page_of-kept_pages keep memory n k within below) (text_cases (keep k) _ (page_of memory k)
    (replicate PAGE_SIZE 0) (is_zero-replicate PAGE_SIZE))

-- What a writer that goes over the pages adds at each.
pub pages_text-kept_pages : (keep : ℕ → Bool) (memory : List ℕ) (n k : ℕ) → n * PAGE_SIZE ≤ length memory → k < n
    → pages_text (kept_pages keep memory n) (k + 1) ≡ pages_text (kept_pages keep memory n) k
    ++ (if keep k then page_text memory k else [])
pages_text-kept_pages keep memory n k within below =
    rw (add-one, page_text-kept_pages keep memory n k within below) refl

pub page_count-kept_pages : (keep : ℕ → Bool) (memory : List ℕ) (n k : ℕ) → n * PAGE_SIZE ≤ length memory → k < n
    → page_count (kept_pages keep memory n) (k + 1) ≡ page_count (kept_pages keep memory n) k
    + (if keep k then (if is_zero (page_of memory k) then 0 else 1) else 0)
page_count-kept_pages keep memory n k within below = rw (add-one, is_zero-kept_pages keep memory n k within below)
    (cases (keep k))
  where
    before : ℕ
    before = page_count (kept_pages keep memory n) k

    cases : (b : Bool) → before + (if (if b then is_zero (page_of memory k) else true) then 0 else 1)
        ≡ before + (if b then (if is_zero (page_of memory k) then 0 else 1) else 0)
    cases true = refl
    cases false = refl
