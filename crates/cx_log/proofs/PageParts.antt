-- A memory told page by page, and the text of some of its pages.
use Rattle.std.proofs.Common.{◌≡◌, ℕ, zero, suc, ◌+◌, ◌-◌, ◌*◌, ◌/◌, ◌%◌, ◌<◌, ◌≤◌, List, [], ◌∷◌, ◌++◌, length, take}
use Rattle.std.proofs.Common.{drop, replicate, eqb, cond, arith, refl, ap, sym, ◌∙◌, true, append_assoc, length-drop}
use Rattle.std.specs.Prelude.{slice_index}
use Rattle.std.proofs.lemmas.Bool.{and_parts, eqb-true}
use Rattle.std.proofs.lemmas.Grind.{same_number_lists}
use Rattle.std.proofs.lemmas.List.{length-take-le, drop-replicate, take-replicate, append-nil}
use Rattle.cx_map.specs.Bytes.{AreBytes}
use Rattle.cx_map.specs.Map.{size_of_pages}
use Rattle.cx_map.specs.declared.TheConstants.{PAGE_SIZE}
use Rattle.cx_map.proofs.BytesLemmas.{AreBytes-append, AreBytes-take, AreBytes-drop}
use Rattle.cx_ram.specs.LittleEndian.{written}
use Rattle.cx_ram.specs.PhysicalMemory.{is_zero, page_of}
use Rattle.cx_ram.proofs.Pages.{slice_index-page_of}
use Rattle.cx_log.specs.Text.{page_count, page_text, pages_text}

-- zeros are told by their number
zeros_are : (xs : List ℕ) → is_zero xs ≡ true → xs ≡ replicate (length xs) 0
zeros_are [] zeros = refl
zeros_are (x ∷ xs) zeros =
    let parts = and_parts (eqb x 0) (is_zero xs) zeros in
    let first : x ≡ 0 = eqb-true x 0 parts.0 in
    rw first (ap (λ (ys : List ℕ). 0 ∷ ys) (zeros_are xs parts.1))

pub same_zeros : (xs ys : List ℕ) → is_zero xs ≡ true → is_zero ys ≡ true → length xs ≡ length ys → xs ≡ ys
same_zeros xs ys first second size = zeros_are xs first ∙ ap (λ (n : ℕ). replicate n 0) size ∙ sym (zeros_are ys second)

zeros_pass : (n : ℕ) → is_zero (replicate n 0) ≡ true
zeros_pass zero = refl
zeros_pass (suc n) = zeros_pass n

-- the pages of a memory of zeros
pub zero_page : (pages n : ℕ) → n < pages → is_zero (page_of (replicate (size_of_pages pages) 0) n) ≡ true
zero_page pages n inside =
    rw (
      drop-replicate {X = ℕ} (n * PAGE_SIZE) (size_of_pages pages) 0,
      take-replicate {X = ℕ} PAGE_SIZE
          (size_of_pages pages - n * PAGE_SIZE) 0 (omega (arith, inside)),
    ) (zeros_pass PAGE_SIZE)

pub size_page : (pages n : ℕ) (m : List ℕ) → length m ≡ size_of_pages pages → n < pages
    → length (page_of m n) ≡ PAGE_SIZE
size_page pages n m size inside = length-take-le PAGE_SIZE (drop (n * PAGE_SIZE) m)
    (omega (arith, length-drop (n * PAGE_SIZE) m, size, inside))

-- memories with the same pages are the same
byte_in_page : (pages i : ℕ) (m : List ℕ) → slice_index m i ≡ slice_index (page_of m (i / PAGE_SIZE)) (i % PAGE_SIZE)
byte_in_page pages i m =
    let whole : i / PAGE_SIZE * PAGE_SIZE + i % PAGE_SIZE ≡ i = omega arith in
    sym (slice_index-page_of m (i / PAGE_SIZE) (i % PAGE_SIZE) (omega arith) ∙ ap (slice_index m) whole)

pub same_memories : (pages : ℕ) (m n : List ℕ) → length m ≡ size_of_pages pages → length n ≡ size_of_pages pages
    → ((k : ℕ) → k < pages → page_of m k ≡ page_of n k) → m ≡ n
same_memories pages m n size size' same = same_number_lists m n (omega (arith, size, size'))
    (λ i below. byte_in_page pages i m ∙ ap (λ (xs : List ℕ). slice_index xs (i % PAGE_SIZE))
    (same (i / PAGE_SIZE) (omega (arith, below, size))) ∙ sym (byte_in_page pages i n))

pub bytes_written : (m : List ℕ) (i : ℕ) (bytes : List ℕ) → AreBytes m → AreBytes bytes → AreBytes (written m i bytes)
unfolding written
bytes_written m i bytes are are_new = AreBytes-append (take i m) _ (AreBytes-take i m are)
    (AreBytes-append bytes _ are_new (AreBytes-drop (i + length bytes) m are))

-- the text of n pages from a first one on, and how many of them aren't all zero
abbrev pub text_from : List ℕ → ℕ → ℕ → List ℕ
text_from m first zero = []
text_from m first (suc n) = page_text m first ++ text_from m (first + 1) n

abbrev pub count_from : List ℕ → ℕ → ℕ → ℕ
count_from m first zero = 0
count_from m first (suc n) = (cond (is_zero (page_of m first)) 0 1) + count_from m (first + 1) n

pub text_split : (m : List ℕ) (first n k : ℕ)
    → text_from m first (n + k) ≡ text_from m first n ++ text_from m (first + n) k
text_split m first zero k = let none : 0 + k ≡ k = omega arith in let here : first + 0 ≡ first = omega arith in rw
    (none, here) refl
text_split m first (suc n) k =
    let one : suc n + k ≡ suc (n + k) = omega arith in
    let there : first + 1 + n ≡ first + suc n = omega arith in
    rw (one, text_split m (first + 1) n k, there) (sym (append_assoc (page_text m first) (text_from m (first + 1) n)
    (text_from m (first + suc n) k)))

pub count_split : (m : List ℕ) (first n k : ℕ)
    → count_from m first (n + k) ≡ count_from m first n + count_from m (first + n) k
count_split m first zero k = let none : 0 + k ≡ k = omega arith in let here : first + 0 ≡ first = omega arith in rw
    (none, here) (omega arith)
count_split m first (suc n) k =
    let one : suc n + k ≡ suc (n + k) = omega arith in
    let there : first + 1 + n ≡ first + suc n = omega arith in
    rw (one, count_split m (first + 1) n k, there) (omega arith)

pub text_is : (m : List ℕ) (n : ℕ) → pages_text m n ≡ text_from m 0 n
text_is m zero = refl
text_is m (suc n) =
    let one : suc n ≡ n + 1 = omega arith in
    let here : 0 + n ≡ n = omega arith in
    let split : text_from m 0 (suc n) ≡ text_from m 0 n ++ (page_text m n ++ []) = ap (text_from m 0) one
    ∙ text_split m 0 n 1 ∙ rw here refl in
    ap (λ (xs : List ℕ). xs ++ page_text m n) (text_is m n) ∙ ap (λ (xs : List ℕ). text_from m 0 n ++ xs)
    (sym (append-nil (page_text m n))) ∙ sym split

pub count_is : (m : List ℕ) (n : ℕ) → page_count m n ≡ count_from m 0 n
count_is m zero = refl
count_is m (suc n) =
    let one : suc n ≡ n + 1 = omega arith in
    let here : 0 + n ≡ n = omega arith in
    let split : count_from m 0 (suc n) ≡ count_from m 0 n + (cond (is_zero (page_of m n)) 0 1 + 0) = ap
    (count_from m 0) one ∙ count_split m 0 n 1 ∙ rw here refl in
    omega (arith, count_is m n, split)

-- pages of zeros have no text and aren't counted
pub no_text : (m : List ℕ) (first n : ℕ) → ((k : ℕ) → first ≤ k → k < first + n → is_zero (page_of m k) ≡ true)
    → text_from m first n ≡ []
no_text m first zero zeros = refl
no_text m first (suc n) zeros = rw (zeros first (omega arith) (omega arith))
    (no_text m (first + 1) n (λ k from below. zeros k (omega (arith, from)) (omega (arith, below))))

pub no_count : (m : List ℕ) (first n : ℕ) → ((k : ℕ) → first ≤ k → k < first + n → is_zero (page_of m k) ≡ true)
    → count_from m first n ≡ 0
no_count m first zero zeros = refl
no_count m first (suc n) zeros =
    let rest = no_count m (first + 1) n (λ k from below. zeros k (omega (arith, from)) (omega (arith, below))) in
    rw (zeros first (omega arith) (omega arith), rest) refl
