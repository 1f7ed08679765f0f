-- Pages of 4,096 bytes, joined to one list of bytes.
use Rattle.std.proofs.Common.{◌≡◌, ℕ, zero, suc, ◌+◌, ◌*◌, ◌<◌, ◌≤◌, List, [], ◌∷◌, ◌++◌, length, take, drop, get_or}
use Rattle.std.proofs.Common.{set, replicate, All, refl, sym, ap, ◌∙◌, arith, length-append}
use Rattle.std.specs.Prelude.{slice_index}
use Rattle.std.specs.List.{concat, splice}
use Rattle.std.proofs.lemmas.List.{get_or_append_left, get_or-append-add, take_at, drop_at, drop-drop, append_assoc}
use Rattle.std.proofs.lemmas.List.{take-append-le, drop-append-le, replicate-append-replicate}
use lib.Seq.{take-append-add, drop-append-add}
use Rattle.cx_map.specs.Bytes.{AreBytes}
use Rattle.cx_map.specs.Map.{size_of_pages}
use Rattle.cx_map.specs.declared.TheConstants.{PAGE_SIZE}
use Rattle.cx_map.proofs.BytesLemmas.{AreBytes-append, AreBytes-zeros}
use Rattle.cx_pages.specs.Frames.{IsWhole, zero_page}
use Rattle.cx_ram.specs.LittleEndian.{loaded, written}
use Rattle.cx_ram.specs.PhysicalMemory.{page_of}
use Rattle.cx_ram.proofs.LoadsAndWrites.{loaded-moved}

first_page : (page : List ℕ) (pages : List (List ℕ)) → All IsWhole (page ∷ pages) → IsWhole page
first_page page pages whole = whole 0 [] (omega arith)

other_pages : (page : List ℕ) (pages : List (List ℕ)) → All IsWhole (page ∷ pages) → All IsWhole pages
other_pages page pages whole = λ k d here. whole (suc k) d (omega arith)

pub length-joined : (pages : List (List ℕ)) → All IsWhole pages → length (concat pages) ≡ size_of_pages (length pages)
length-joined [] whole = refl
length-joined (page ∷ pages) whole =
    let first = first_page page pages whole in
    let rest = length-joined pages (other_pages page pages whole) in
    omega (arith, first.size, length-append page (concat pages))

pub bytes-joined : (pages : List (List ℕ)) → All IsWhole pages → AreBytes (concat pages)
bytes-joined [] whole = AreBytes-zeros 0
bytes-joined (page ∷ pages) whole =
    AreBytes-append page (concat pages) (first_page page pages whole).bytes
    (bytes-joined pages (other_pages page pages whole))

-- A byte of a page.
pub byte-joined : (pages : List (List ℕ)) (p o : ℕ) → All IsWhole pages → p < length pages → o < PAGE_SIZE
    → slice_index (concat pages) (p * PAGE_SIZE + o) ≡ slice_index (get_or pages p []) o
byte-joined [] p o whole here low = absurd (omega arith)
byte-joined (page ∷ pages) zero o whole here low =
    let first = first_page page pages whole in
    let at : 0 * PAGE_SIZE + o ≡ o = omega arith in
    rw at (get_or_append_left page (concat pages) 0 o (omega (arith, first.size)))
byte-joined (page ∷ pages) (suc p) o whole here low =
    let first = first_page page pages whole in
    let at : suc p * PAGE_SIZE + o ≡ length page + (p * PAGE_SIZE + o) = omega (arith, first.size) in
    rw at (get_or-append-add page (concat pages) (p * PAGE_SIZE + o) 0
    ∙ byte-joined pages p o (other_pages page pages whole) (omega arith) low)

-- A load in a page.
pub loaded-joined : (pages : List (List ℕ)) (p o len : ℕ) → All IsWhole pages → p < length pages → o + len ≤ PAGE_SIZE
    → loaded (concat pages) (p * PAGE_SIZE + o) len ≡ loaded (get_or pages p []) o len
loaded-joined pages p o len whole here fits =
    loaded-moved (concat pages) (get_or pages p []) (p * PAGE_SIZE + o) o len (λ k low.
    let at : p * PAGE_SIZE + o + k ≡ p * PAGE_SIZE + (o + k) = omega arith in
    rw at (byte-joined pages p (o + k) whole here (omega arith)))

-- A page of the bytes.
pub page-joined : (pages : List (List ℕ)) (p : ℕ) → All IsWhole pages → p < length pages
    → page_of (concat pages) p ≡ get_or pages p []
page-joined [] p whole here = absurd (omega arith)
page-joined (page ∷ pages) zero whole here = take_at page (concat pages) PAGE_SIZE (first_page page pages whole).size
page-joined (page ∷ pages) (suc p) whole here =
    let size = (first_page page pages whole).size in
    let at : suc p * PAGE_SIZE ≡ PAGE_SIZE + p * PAGE_SIZE = omega arith in
    let past : drop (suc p * PAGE_SIZE) (page ++ concat pages) ≡ drop (p * PAGE_SIZE) (concat pages) =
    rw at (sym (drop-drop (p * PAGE_SIZE) PAGE_SIZE (page ++ concat pages))
    ∙ ap (drop (p * PAGE_SIZE)) (drop_at page (concat pages) PAGE_SIZE size)) in
    ap (take PAGE_SIZE) past ∙ page-joined pages p (other_pages page pages whole) (omega arith)

-- A write in the first of two parts, and one behind it.
written_within : (xs ys : List ℕ) (i : ℕ) (bytes : List ℕ) → i + length bytes ≤ length xs
    → splice xs i (i + length bytes) bytes ++ ys ≡ written (xs ++ ys) i bytes
unfolding written
written_within xs ys i bytes fits =
    append_assoc (take i xs) (bytes ++ drop (i + length bytes) xs) ys
    ∙ ap (λ (l : List ℕ). take i xs ++ l) (append_assoc bytes (drop (i + length bytes) xs) ys)
    ∙ rw (take-append-le i xs ys (omega arith), drop-append-le (i + length bytes) xs ys fits) refl

written_behind : (xs ys : List ℕ) (i : ℕ) (bytes : List ℕ) → xs ++ written ys i bytes ≡ written (xs ++ ys)
    (length xs + i) bytes
unfolding written
written_behind xs ys i bytes =
    let at : length xs + i + length bytes ≡ length xs + (i + length bytes) = omega arith in
    rw (take-append-add xs ys i, at, drop-append-add xs ys (i + length bytes))
    (sym (append_assoc xs (take i ys) (bytes ++ drop (i + length bytes) ys)))

-- A write in a page is one in the bytes.
pub written-joined : (pages : List (List ℕ)) (p o : ℕ) (bytes : List ℕ) → All IsWhole pages → p < length pages
    → o + length bytes ≤ PAGE_SIZE
    → concat (set pages p (splice (get_or pages p []) o (o + length bytes) bytes))
    ≡ written (concat pages) (p * PAGE_SIZE + o) bytes
written-joined [] p o bytes whole here fits = absurd (omega arith)
written-joined (page ∷ pages) zero o bytes whole here fits =
    let first = first_page page pages whole in
    let at : 0 * PAGE_SIZE + o ≡ o = omega arith in
    rw at (written_within page (concat pages) o bytes (omega (arith, first.size)))
written-joined (page ∷ pages) (suc p) o bytes whole here fits =
    let first = first_page page pages whole in
    let at : suc p * PAGE_SIZE + o ≡ length page + (p * PAGE_SIZE + o) = omega (arith, first.size) in
    rw at (ap (λ (l : List ℕ). page ++ l) (written-joined pages p o bytes (other_pages page pages whole) (omega arith)
    fits)
    ∙ written_behind page (concat pages) (p * PAGE_SIZE + o) bytes)

-- Pages of zeros.
pub zeros-joined : (n : ℕ) → concat (replicate n zero_page) ≡ replicate (size_of_pages n) 0
zeros-joined zero = refl
zeros-joined (suc n) =
    let at : size_of_pages (suc n) ≡ PAGE_SIZE + size_of_pages n = omega arith in
    ap (λ (l : List ℕ). zero_page ++ l) (zeros-joined n) ∙ replicate-append-replicate PAGE_SIZE (size_of_pages n) 0
    ∙ ap (λ (k : ℕ). replicate k 0) (sym at)
