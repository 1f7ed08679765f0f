-- The pages that the records of some steps read from.
use Rattle.std.proofs.Common.{◌≡◌, ℕ, ◌/◌, ◌<◌, ◌≤◌, List, [], ◌∷◌, ◌++◌, length, take, drop, get_or, ◌==◌, ◌||◌, Bool}
use Rattle.std.proofs.Common.{true, false, refl, append_assoc}
use Rattle.std.specs.List.{list_any}
use Rattle.std.proofs.lemmas.List.{drop-append-le, drop_all, take-append-drop}
use Rattle.std.proofs.lemmas.List.Folds.{list_any_at, list_any-append}
use Rattle.std.proofs.lemmas.Bool.{or_left, or_right, eq-eqb}
use Rattle.cx_map.specs.declared.TheConstants.{PAGE_SIZE}
use Rattle.cx_run.specs.Window.{any_in_page, is_read}

-- A byte lies in its own page.
pub any_in_page-at : (indices : List ℕ) (j d : ℕ) → j < length indices
    → any_in_page indices (get_or indices j d / PAGE_SIZE) ≡ true
any_in_page-at indices j d below = list_any_at (λ i. i / PAGE_SIZE == get_or indices j d / PAGE_SIZE) indices j d below
    (eq-eqb (get_or indices j d / PAGE_SIZE) (get_or indices j d / PAGE_SIZE) refl)

-- Before the first step of a window no page is read in it.
pub is_read-none : {Rec : Type 0} (reads : Rec → List ℕ) (m page : ℕ) (records : List Rec) → length records ≤ m
    → is_read reads (drop m records) page ≡ false
is_read-none reads m page records before = rw (drop_all m records before) refl

-- One step more reads what its record names.
pub is_read-more : {Rec : Type 0} (reads : Rec → List ℕ) (m page : ℕ) (records : List Rec) (rec : Rec)
    → m ≤ length records
    → is_read reads (drop m (records ++ rec ∷ [])) page ≡ (is_read reads (drop m records) page || any_in_page
    (reads rec) page)
is_read-more {Rec} reads m page records rec from =
    let test : Rec → Bool = λ (r : Rec). any_in_page (reads r) page in
    rw (drop-append-le m records (rec ∷ []) from, list_any-append test (drop m records) (rec ∷ []))
    (alone (is_read reads (drop m records) page) (any_in_page (reads rec) page))
  where
    alone : (s t : Bool) → (s || (t || false)) ≡ (s || t)
    alone s true = refl
    alone s false = refl

-- What a step of the window reads is read in it.
pub is_read-at : {Rec : Type 0} (reads : Rec → List ℕ) (m page : ℕ) (before rest : List Rec) (rec : Rec)
    → m ≤ length before → any_in_page (reads rec) page ≡ true → is_read reads (drop m (before ++ rec ∷ [] ++ rest)) page
    ≡ true
is_read-at {Rec} reads m page before rest rec from reads_it =
    let test : Rec → Bool = λ (r : Rec). any_in_page (reads r) page in
    rw (append_assoc, drop-append-le m before (rec ∷ rest) from, list_any-append test (drop m before) (rec ∷ rest))
    (or_right (list_any test (drop m before)) (test rec || list_any test rest) (or_left (test rec) (list_any test rest)
    reads_it))

-- What some steps read, more steps read.
is_read-later : {Rec : Type 0} (reads : Rec → List ℕ) (page n : ℕ) (records : List Rec)
    → is_read reads (drop n records) page ≡ true → is_read reads records page ≡ true
is_read-later {Rec} reads page n records some =
    let test : Rec → Bool = λ (r : Rec). any_in_page (reads r) page in
    rw (← take-append-drop n records, list_any-append test (take n records) (drop n records))
    (or_right (list_any test (take n records)) (list_any test (drop n records)) some)

pub is_read-longer : {Rec : Type 0} (reads : Rec → List ℕ) (page m j : ℕ) (records rest : List Rec) → m ≤ length records
    → is_read reads (drop j (drop m records)) page ≡ true → is_read reads (drop m (records ++ rest)) page ≡ true
is_read-longer {Rec} reads page m j records rest within some =
    let test : Rec → Bool = λ (r : Rec). any_in_page (reads r) page in
    rw (drop-append-le m records rest within, list_any-append test (drop m records) rest)
    (or_left (list_any test (drop m records)) (list_any test rest) (is_read-later reads page j (drop m records) some))
