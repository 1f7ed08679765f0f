-- Marks of the pages of some bytes.
use Rattle.std.proofs.Common.{◌≡◌, ◌≢◌, ℕ, zero, suc, ◌+◌, ◌-◌, ◌/◌, ◌<◌, ◌≤◌, Bool, true, false, ◌||◌, eqb, List, []}
use Rattle.std.proofs.Common.{◌∷◌, ◌++◌, length, get_or, set, take, inl, inr, arith, refl, ap, sym, ◌∙◌, append-nil}
use Rattle.std.proofs.Common.{append_assoc, add-one, leb}
use Rattle.std.proofs.lemmas.Bool.{eq-eqb, eqb-true, false_from_ne_true, cases_eq, le-leb, leb-true}
use Rattle.std.proofs.lemmas.List.{get_or-set_same, get_or-set_other}
use Rattle.cx_map.specs.declared.TheConstants.{PAGE_SIZE, RAM_START}
use Rattle.cx_hart.specs.Reads.{entry_indices, indices, ram_indices}
use Rattle.cx_run.specs.Window.{any_in_page}
use Rattle.cx_window.specs.Marks.{AddsMarks}

pub or_false : (a : Bool) → (a || false) ≡ a
or_false true = refl
or_false false = refl

or_true : (a : Bool) → (a || true) ≡ true
or_true true = refl
or_true false = refl

or_assoc : (a b c : Bool) → ((a || b) || c) ≡ (a || (b || c))
or_assoc true b c = refl
or_assoc false b c = refl

-- one mark is set
pub marked : (marks : List Bool) (page k : ℕ) → page < length marks → get_or (set marks page true) k false
    ≡ (get_or marks k false || eqb page k)
marked marks page k inside = elim (cases_eq page k) [
  | inl same ↦ rw (eq-eqb page k same, or_true) (rw (← same) (get_or-set_same marks page true false inside))
  | inr other ↦ (let different : eqb page k ≡ false = false_from_ne_true _ (λ h. other (eqb-true page k h)) in
      let apart : k ≢ page = λ h. other (sym h) in
      rw (different, or_false) (get_or-set_other marks page k true false apart))
]

-- or it has no place among them
pub no_mark : (marks : List Bool) (page k : ℕ) → length marks ≤ page → k < length marks
    → get_or marks k false ≡ (get_or marks k false || eqb page k)
no_mark marks page k beyond inside = let different : eqb page k ≡ false =
    false_from_ne_true _ (λ h. let e = eqb-true page k h in absurd (omega (arith, e))) in rw (different, or_false) refl

any_in_page-append : (xs ys : List ℕ) (k : ℕ) → any_in_page (xs ++ ys) k ≡ (any_in_page xs k || any_in_page ys k)
any_in_page-append [] ys k = refl
any_in_page-append (x ∷ xs) ys k = ap (λ (b : Bool). eqb (x / PAGE_SIZE) k || b) (any_in_page-append xs ys k)
    ∙ sym (or_assoc (eqb (x / PAGE_SIZE) k) (any_in_page xs k) (any_in_page ys k))

pub nothing_marked : (marks : List Bool) → AddsMarks marks marks []
nothing_marked marks = record { size = refl; pages = λ k inside. sym (or_false (get_or marks k false)) }

-- some bytes, and then others
pub marked_then : (one two three : List Bool) (xs ys : List ℕ) → AddsMarks one two xs → AddsMarks two three ys
    → AddsMarks one three (xs ++ ys)
marked_then one two three xs ys first second = record {
  size = second.size ∙ first.size;
  pages = λ k inside. rw (any_in_page-append, ← or_assoc) (second.pages k (omega (arith, first.size))
      ∙ ap (λ (b : Bool). b || any_in_page ys k) (first.pages k inside));
}

or_twice : (a b : Bool) → (a || (a || b)) ≡ (a || b)
or_twice true b = refl
or_twice false b = refl

or_last : (a b : Bool) → (a || (b || b)) ≡ (a || b)
or_last true b = refl
or_last false true = refl
or_last false false = refl

-- Of so few bytes each lies in the page of the first or in that of the last.
pub any_of_indices : (i n k : ℕ) → n < PAGE_SIZE
    → any_in_page (indices i (suc n)) k ≡ (eqb (i / PAGE_SIZE) k || eqb ((i + n) / PAGE_SIZE) k)
any_of_indices i zero k few = let e : i + 0 ≡ i = omega arith in
    rw e (or_false (eqb (i / PAGE_SIZE) k) ∙ sym (or_same (eqb (i / PAGE_SIZE) k)))
  where
    or_same : (a : Bool) → (a || a) ≡ a
    or_same true = refl
    or_same false = refl
any_of_indices i (suc n) k few =
    let rest : any_in_page (indices (i + 1) (suc n)) k ≡ (eqb ((i + 1) / PAGE_SIZE) k || eqb ((i + 1 + n) / PAGE_SIZE)
    k) = any_of_indices (i + 1) n k (omega arith) in
    let last : i + 1 + n ≡ i + suc n = omega arith in
    ap (λ (b : Bool). eqb (i / PAGE_SIZE) k || b) (rw last at rest)
    ∙ elim (cases_eq ((i + 1) / PAGE_SIZE) (i / PAGE_SIZE)) [
      | inl same ↦ rw same (or_twice (eqb (i / PAGE_SIZE) k) (eqb ((i + suc n) / PAGE_SIZE) k))
      | inr other ↦ (let next : (i + 1) / PAGE_SIZE ≡ (i + suc n) / PAGE_SIZE = omega (arith, other) in
          rw next (or_last (eqb (i / PAGE_SIZE) k) (eqb ((i + suc n) / PAGE_SIZE) k)))
    ]

-- the pages of the first byte and of the last
pub bytes_marked : (one two three : List Bool) (place len : ℕ) → RAM_START ≤ place → len ≢ 0 → len < 256
    → length two ≡ length one
    → ((k : ℕ) → k < length one
    → get_or two k false ≡ (get_or one k false || eqb ((place - RAM_START) / PAGE_SIZE) k))
    → length three ≡ length two
    → ((k : ℕ) → k < length two
    → get_or three k false ≡ (get_or two k false || eqb ((place - RAM_START + (len - 1)) / PAGE_SIZE) k))
    → AddsMarks one three (ram_indices place len)
bytes_marked one two three place zero low some few size first size' last = absurd (some refl)
bytes_marked one two three place (suc n) low some few size first size' last =
    let inside : leb (RAM_START) place ≡ true = le-leb (RAM_START) place low in
    let rest : suc n - 1 ≡ n = omega arith in
    rw inside (record {
      size = size' ∙ size;
      pages = λ k below. rw (any_of_indices (place - RAM_START) n k (omega arith), ← or_assoc)
          (rw rest at (last k (omega (arith, size)))
          ∙ ap (λ (b : Bool). b || eqb ((place - RAM_START + n) / PAGE_SIZE) k) (first k below));
    })

-- bytes of a device, or none
pub no_bytes : (marks : List Bool) (place len : ℕ) → place < RAM_START → AddsMarks marks marks (ram_indices place len)
no_bytes marks place len low = let outside : leb (RAM_START) place ≡ false =
    false_from_ne_true _ (λ h. let e = leb-true (RAM_START) place h in absurd (omega (arith, e))) in
    rw outside (nothing_marked marks)

-- the entries at one place more
entries-more : (places : List ℕ) (n : ℕ) → n < length places → entry_indices (take (suc n) places) ≡ entry_indices
    (take n places) ++ ram_indices (get_or places n 0) 4
entries-more [] n inside = absurd (omega arith)
entries-more (p ∷ places) zero inside = append-nil (ram_indices p 4)
entries-more (p ∷ places) (suc n) inside = ap (λ xs. ram_indices p 4 ++ xs) (entries-more places n (omega arith))
    ∙ sym (append_assoc (ram_indices p 4) (entry_indices (take n places)) (ram_indices (get_or places n 0) 4))

pub entry_marked : (one two three : List Bool) (places : List ℕ) (n : ℕ) → n < length places
    → AddsMarks one two (entry_indices (take n places)) → AddsMarks two three (ram_indices (get_or places n 0) 4)
    → AddsMarks one three (entry_indices (take (n + 1) places))
entry_marked one two three places n inside before next =
    rw (add-one, entries-more places n inside) (marked_then one two three _ _ before next)
