-- The memory on the pages that are kept, page by page and byte by byte.
use Rattle.std.proofs.Common.{◌≡◌, ℕ, zero, suc, ◌+◌, ◌-◌, ◌*◌, ◌/◌, ◌<◌, ◌≤◌, List, ◌++◌, length, drop, get_or}
use Rattle.std.proofs.Common.{slice_index, replicate, Bool, true, false, if◌then◌else◌, refl, sym, ap, ◌∙◌, inl}
use Rattle.std.proofs.Common.{inr, arith}
use Rattle.std.proofs.lemmas.List.{length-append, length-replicate, length-take, length-take-le, length-drop}
use Rattle.std.proofs.lemmas.List.{ext_get_or, drop_at, take_all, drop-append-le, take-append-le, get_or_append_left}
use Rattle.std.proofs.lemmas.List.{get_or-append_right, get_or-take, get_or-drop}
use Rattle.std.proofs.lemmas.Bool.{cases_lt}
use Rattle.cx_map.specs.Bytes.{AreBytes}
use Rattle.cx_map.proofs.BytesLemmas.{AreBytes-append, AreBytes-drop, AreBytes-take, AreBytes-zeros}
use Rattle.cx_map.specs.declared.TheConstants.{PAGE_SIZE}
use Rattle.cx_ram.specs.PhysicalMemory.{page_of}
use Rattle.cx_machine.specs.Machine.{IsMemory}
use Rattle.cx_run.specs.Window.{kept_pages}

pub length-page_of : (memory : List ℕ) (k : ℕ) → suc k * PAGE_SIZE ≤ length memory
    → length (page_of memory k) ≡ PAGE_SIZE
length-page_of memory k within = length-take-le PAGE_SIZE (drop (k * PAGE_SIZE) memory) (rw length-drop (omega arith))

-- one page, kept or not
abbrev kept : Bool → List ℕ → List ℕ
kept b page = if b then page else replicate PAGE_SIZE 0

length-kept : (b : Bool) (page : List ℕ) → length page ≡ PAGE_SIZE → length (kept b page) ≡ PAGE_SIZE
length-kept true page size = size
length-kept false page size = length-replicate {A = ℕ} PAGE_SIZE 0

pub length-kept_pages : (keep : ℕ → Bool) (memory : List ℕ) (n : ℕ) → n * PAGE_SIZE ≤ length memory
    → length (kept_pages keep memory n) ≡ n * PAGE_SIZE
length-kept_pages keep memory zero within = refl
length-kept_pages keep memory (suc n) within =
    let before : length (kept_pages keep memory n) ≡ n * PAGE_SIZE = length-kept_pages keep memory n (omega arith) in
    let page : length (kept (keep n) (page_of memory n)) ≡ PAGE_SIZE =
    length-kept (keep n) (page_of memory n) (length-page_of memory n within) in
    rw (length-append, before, page) (omega arith)

-- The first pages of a memory that goes on.
page_of-front : (xs ys : List ℕ) (k : ℕ) → suc k * PAGE_SIZE ≤ length xs → page_of (xs ++ ys) k ≡ page_of xs k
page_of-front xs ys k within =
    let least : k * PAGE_SIZE ≤ length xs = omega arith in
    let room : PAGE_SIZE ≤ length (drop (k * PAGE_SIZE) xs) = rw length-drop (omega arith) in
    rw (drop-append-le (k * PAGE_SIZE) xs ys least, take-append-le PAGE_SIZE (drop (k * PAGE_SIZE) xs) ys room) refl

page_of-last : (xs page : List ℕ) (k : ℕ) → length xs ≡ k * PAGE_SIZE → length page ≡ PAGE_SIZE
    → page_of (xs ++ page) k ≡ page
page_of-last xs page k before size = rw (drop_at xs page (k * PAGE_SIZE) before) (take_all PAGE_SIZE page (omega arith))

-- A page of the kept memory is that of the memory where it is kept, else zeros.
pub page_of-kept_pages : (keep : ℕ → Bool) (memory : List ℕ) (n k : ℕ) → n * PAGE_SIZE ≤ length memory → k < n
    → page_of (kept_pages keep memory n) k ≡ (if keep k then page_of memory k else replicate PAGE_SIZE 0)
page_of-kept_pages keep memory zero k within below = absurd (omega arith)
page_of-kept_pages keep memory (suc n) k within below =
    let front : List ℕ = kept_pages keep memory n in
    let page : List ℕ = kept (keep n) (page_of memory n) in
    let before : length front ≡ n * PAGE_SIZE = length-kept_pages keep memory n (omega arith) in
    let size : length page ≡ PAGE_SIZE = length-kept (keep n) (page_of memory n) (length-page_of memory n within) in
    elim (cases_lt k n) [
      | inl less ↦ page_of-front front page k (omega arith) ∙ page_of-kept_pages keep memory n k (omega arith) less
      | inr most ↦ let same : k ≡ n = omega arith in rw same (page_of-last front page n before size)
    ]

-- A byte of a page that is kept.
byte-last : (xs page memory : List ℕ) (n i : ℕ) → length xs ≡ n * PAGE_SIZE → page ≡ page_of memory n
    → n * PAGE_SIZE ≤ i → i < suc n * PAGE_SIZE → slice_index (xs ++ page) i ≡ slice_index memory i
byte-last xs page memory n i before is from below =
    let past : slice_index (xs ++ page) i ≡ get_or page (i - n * PAGE_SIZE) 0 =
    get_or-append_right xs page (n * PAGE_SIZE) i 0 before from in
    let inside : get_or (page_of memory n) (i - n * PAGE_SIZE) 0 ≡ get_or (drop (n * PAGE_SIZE) memory)
    (i - n * PAGE_SIZE) 0 = get_or-take PAGE_SIZE (drop (n * PAGE_SIZE) memory) (i - n * PAGE_SIZE) 0 (omega arith)
    in
    let whole : n * PAGE_SIZE + (i - n * PAGE_SIZE) ≡ i = omega arith in
    rw (past, is, inside, get_or-drop, whole) refl

pub byte_of-kept_pages : (keep : ℕ → Bool) (memory : List ℕ) (n i : ℕ) → n * PAGE_SIZE ≤ length memory
    → i < n * PAGE_SIZE → keep (i / PAGE_SIZE) ≡ true → slice_index (kept_pages keep memory n) i ≡ slice_index memory i
byte_of-kept_pages keep memory zero i within below keeps = absurd (omega arith)
byte_of-kept_pages keep memory (suc n) i within below keeps =
    let front : List ℕ = kept_pages keep memory n in
    let page : List ℕ = kept (keep n) (page_of memory n) in
    let before : length front ≡ n * PAGE_SIZE = length-kept_pages keep memory n (omega arith) in
    elim (cases_lt i (n * PAGE_SIZE)) [
      | inl less ↦ get_or_append_left front page 0 i (omega arith) ∙ byte_of-kept_pages keep memory n i (omega arith)
          less keeps
      | inr most ↦
          let here : i / PAGE_SIZE ≡ n = omega arith in
          let kept_here : keep n ≡ true = rw here at keeps in
          let is : page ≡ page_of memory n = ap (λ b. kept b (page_of memory n)) kept_here in
          byte-last front page memory n i before is most below
    ]

AreBytes-kept : (b : Bool) (page : List ℕ) → AreBytes page → AreBytes (kept b page)
AreBytes-kept true page bytes = bytes
AreBytes-kept false page bytes = AreBytes-zeros PAGE_SIZE

AreBytes-kept_pages : (keep : ℕ → Bool) (memory : List ℕ) (n : ℕ) → AreBytes memory
    → AreBytes (kept_pages keep memory n)
AreBytes-kept_pages keep memory zero bytes = AreBytes-zeros 0
AreBytes-kept_pages keep memory (suc n) bytes =
    AreBytes-append (kept_pages keep memory n) (kept (keep n) (page_of memory n))
    (AreBytes-kept_pages keep memory n bytes)
    (AreBytes-kept (keep n) (page_of memory n) (AreBytes-take PAGE_SIZE (drop (n * PAGE_SIZE) memory)
    (AreBytes-drop (n * PAGE_SIZE) memory bytes)))

pub IsMemory-kept_pages : (keep : ℕ → Bool) (memory : List ℕ) (pages : ℕ) → IsMemory pages memory
    → IsMemory pages (kept_pages keep memory pages)
IsMemory-kept_pages keep memory pages is = record {
  size = length-kept_pages keep memory pages (omega arith);
  bytes =
      AreBytes-kept_pages keep memory pages is.bytes;
}

-- Two memories that agree on each page that is kept, by tests that agree, are kept alike.
pub kept_pages-agree : (p q : ℕ → Bool) (memory other : List ℕ) (n : ℕ) → ((k : ℕ) → k < n → p k ≡ q k)
    → ((k : ℕ) → k < n → q k ≡ true → page_of memory k ≡ page_of other k) → kept_pages p memory n ≡ kept_pages q other n
kept_pages-agree p q memory other zero tests pages = refl
kept_pages-agree p q memory other (suc n) tests pages =
    let before : kept_pages p memory n ≡ kept_pages q other n =
    kept_pages-agree p q memory other n (λ k below. tests k (omega arith)) (λ k below. pages k (omega arith)) in
    let last : (b : Bool) → q n ≡ b → kept b (page_of memory n) ≡ kept b (page_of other n) =
    elim [ true ↦ λ is. pages n (omega arith) is | false ↦ λ is. refl ] in
    rw (before, tests n (omega arith), last (q n) refl) refl

-- Two memories of one size that agree on the bytes of a page have it in common.
pub page_of-agree : (xs ys : List ℕ) (k : ℕ) → length ys ≡ length xs
    → ((i : ℕ) → i / PAGE_SIZE ≡ k → slice_index ys i ≡ slice_index xs i) → page_of ys k ≡ page_of xs k
page_of-agree xs ys k size bytes =
    ext_get_or 0 (page_of ys k) (page_of xs k) same_size
    (λ j below. (let inside : j < PAGE_SIZE = in_page j below in at_place ys j inside
    ∙ (bytes (k * PAGE_SIZE + j) (omega arith) ∙ sym (at_place xs j inside))))
  where
    same_size : length (page_of ys k) ≡ length (page_of xs k)
    same_size = simp (length-take, length-drop, size)

    in_page : (j : ℕ) → j < length (page_of ys k) → j < PAGE_SIZE
    in_page j below = omega (arith, length-take PAGE_SIZE (drop (k * PAGE_SIZE) ys))

    at_place : (zs : List ℕ) (j : ℕ) → j < PAGE_SIZE → get_or (page_of zs k) j 0 ≡ slice_index zs (k * PAGE_SIZE + j)
    at_place zs j inside = get_or-take PAGE_SIZE (drop (k * PAGE_SIZE) zs) j 0 inside
        ∙ get_or-drop (k * PAGE_SIZE) zs j 0
