-- How many frames are used: one for each stamp other than 0 that some memory has.
use Rattle.std.proofs.Common.{◌≡◌, ◌≢◌, ℕ, zero, suc, ◌+◌, ◌-◌, ◌<◌, ◌≤◌, true, false, List, [], ◌∷◌, ◌++◌, length}
use Rattle.std.proofs.Common.{get_or, map, take, cond, eqb, refl, sym, ◌∙◌, inl, inr, arith}
use Rattle.std.specs.List.{flat_map, list_any, sum_by}
use Rattle.std.proofs.lemmas.Bool.{cases_eq, cases_lt, ne_eqb, eq-eqb}
use Rattle.std.proofs.lemmas.List.{take_all}
use Rattle.std.proofs.lemmas.List.Sums.{sum_by-append, sum_by_more}
use Rattle.cx_pages.specs.Counts.{Tally, count_of, taken, taken_count}
use Rattle.cx_pages.specs.Memories.{distinct_count, is_new, stamps_in}
use Rattle.cx_pages.specs.Tables.{names, all_names, extra_names, saved_of, IsPool, is_frame}
use Rattle.cx_pages.proofs.Tallies.{taken-zero, taken-some, count_inside}
use Rattle.cx_pages.proofs.Naming.{is_frame-same, is_frame-other, names-cons, names-nil, names_here, all_names-cons}
use Rattle.cx_pages.proofs.Naming.{all_names-nil, extra_names-zero, extra_names-other}

-- ---- a number that isn't in a list

not_there : (x : ℕ) (xs : List ℕ) → names x xs ≡ 0 → list_any (λ y. eqb y x) xs ≡ false
not_there x [] none = refl
not_there x (y ∷ xs) none = let c = names-cons x y xs in elim (cases_eq y x) [
  | inl same ↦ let one : is_frame x y ≡ 1 = rw same (is_frame-same x) in absurd (omega arith)
  | inr other ↦ rw (ne_eqb y x other) (not_there x xs (omega arith))
]

there : (x : ℕ) (xs : List ℕ) → 1 ≤ names x xs → list_any (λ y. eqb y x) xs ≡ true
there x [] some = let none = names-nil x in absurd (omega arith)
there x (y ∷ xs) some = let c = names-cons x y xs in elim (cases_eq y x) [
  | inl same ↦ rw (eq-eqb y x same) refl
  | inr other ↦ let none = is_frame-other x y other in rw (ne_eqb y x other) (there x xs (omega arith))
]

is_new-zero : (xs : List ℕ) → is_new 0 xs ≡ 0
unfolding is_new
is_new-zero xs = refl

is_new-there : (x : ℕ) (xs : List ℕ) → 1 ≤ names x xs → is_new x xs ≡ 0
unfolding is_new
is_new-there x xs some = elim (cases_eq x 0) [
  | inl none ↦ rw (eq-eqb x 0 none) refl
  | inr other ↦ rw (ne_eqb x 0 other, there x xs some) refl
]

is_new-other : (x : ℕ) (xs : List ℕ) → x ≢ 0 → names x xs ≡ 0 → is_new x xs ≡ 1
unfolding is_new
is_new-other x xs other none = rw (ne_eqb x 0 other, not_there x xs none) refl

-- ---- how many numbers below n, other than 0, are in a list

unfoldable in_list : ℕ → List ℕ → ℕ
in_list n xs = cond (eqb n 0) 0 (taken (names n xs))

in_list-zero : (xs : List ℕ) → in_list 0 xs ≡ 0
unfolding in_list
in_list-zero xs = refl

in_list-other : (n : ℕ) (xs : List ℕ) → n ≢ 0 → in_list n xs ≡ taken (names n xs)
unfolding in_list
in_list-other n xs other = rw (ne_eqb n 0 other) refl

in_list-same : (n : ℕ) (xs ys : List ℕ) → names n xs ≡ names n ys → in_list n xs ≡ in_list n ys
unfolding in_list
in_list-same n xs ys e = rw e refl

unfoldable present : ℕ → List ℕ → ℕ
present zero xs = 0
present (suc n) xs = present n xs + in_list n xs

present-nil : (n : ℕ) → present n [] ≡ 0
unfolding present
present-nil zero = refl
present-nil (suc n) = let rest = present-nil n in elim (cases_eq n 0) [
  | inl none ↦ let first : in_list n [] ≡ 0 = rw none (in_list-zero []) in omega arith
  | inr other ↦ let first : in_list n [] ≡ 0 = rw (in_list-other n [] other, names-nil n) taken-zero in omega arith
]

-- a number past them doesn't count
names-apart : (n x : ℕ) (xs : List ℕ) → x ≢ n → names n (x ∷ xs) ≡ names n xs
names-apart n x xs other = let c = names-cons n x xs in let none = is_frame-other n x other in omega arith

present-past : (n x : ℕ) (xs : List ℕ) → n ≤ x → present n (x ∷ xs) ≡ present n xs
unfolding present
present-past zero x xs past = refl
present-past (suc n) x xs past =
    let rest = present-past n x xs (omega arith) in
    let same = in_list-same n (x ∷ xs) xs (names-apart n x xs (λ e. omega arith)) in
    omega arith

-- the number itself counts where it is new
in_list-more : (x : ℕ) (xs : List ℕ) → in_list x (x ∷ xs) ≡ in_list x xs + is_new x xs
in_list-more x xs = elim (cases_eq x 0) [
  | inl none ↦ rw none (let a = in_list-zero (0 ∷ xs) in let b = in_list-zero xs in let c = is_new-zero xs in
      omega arith)
  | inr other ↦
      let c = names-cons x x xs in
      let one = is_frame-same x in
      let more : in_list x (x ∷ xs) ≡ 1 = in_list-other x (x ∷ xs) other ∙ taken-some (names x (x ∷ xs)) (omega arith)
      in
      let was = in_list-other x xs other in
      elim (cases_lt 0 (names x xs)) [
        | inl some ↦
            let had = taken-some (names x xs) some in
            let old = is_new-there x xs some in
            omega arith
        | inr past ↦
            let none : names x xs ≡ 0 = omega arith in
            let had_not : taken (names x xs) ≡ 0 = rw none taken-zero in
            let fresh = is_new-other x xs other none in
            omega arith
      ]
]

present-more : (n x : ℕ) (xs : List ℕ) → x < n → present n (x ∷ xs) ≡ present n xs + is_new x xs
unfolding present
present-more zero x xs below = absurd (omega arith)
present-more (suc n) x xs below = elim (cases_eq x n) [
  | inl same ↦
      let rest = present-past n x xs (omega arith) in
      let here : in_list n (x ∷ xs) ≡ in_list n xs + is_new x xs = rw (← same) (in_list-more x xs) in
      omega arith
  | inr other ↦
      let rest = present-more n x xs (omega arith) in
      let same = in_list-same n (x ∷ xs) xs (names-apart n x xs other) in
      omega arith
]

distinct-present : (n : ℕ) (xs : List ℕ) → ((i : ℕ) → i < length xs → get_or xs i 0 < n)
    → present n xs ≡ distinct_count xs
unfolding distinct_count
distinct-present n [] below = present-nil n
distinct-present n (x ∷ xs) below =
    let first = present-more n x xs (below 0 (omega arith)) in
    let rest = distinct-present n xs (λ i here. below (suc i) (omega arith)) in
    omega arith

-- ---- the counts of frames

first_counts : (counts xs : List ℕ) → ((f : ℕ) → count_of counts f ≡ extra_names f + names f xs) → (n : ℕ)
    → suc n ≤ length counts → sum_by taken (take (suc n) counts) ≡ 1 + present (suc n) xs
unfolding present
first_counts counts xs counted zero within =
    let more : sum_by taken (take 1 counts) ≡ sum_by taken (take 0 counts) + taken (count_of counts 0) =
    sum_by_more taken counts 0 0 within in
    let none : sum_by taken (take 0 counts) ≡ 0 = refl in
    let one = taken-some (count_of counts 0) (omega (arith, counted 0, extra_names-zero)) in
    let zero' = in_list-zero xs in
    omega arith
first_counts counts xs counted (suc n) within =
    let on : suc n + 1 ≡ suc (suc n) = omega arith in
    let more : sum_by taken (take (suc (suc n)) counts) ≡ sum_by taken (take (suc n) counts)
    + taken (count_of counts (suc n)) = rw on at (sum_by_more taken counts (suc n) 0 (omega arith)) in
    let other : suc n ≢ 0 = λ e. omega arith in
    let named : count_of counts (suc n) ≡ names (suc n) xs =
    omega (arith, counted (suc n), extra_names-other (suc n) other) in
    let same : taken (count_of counts (suc n)) ≡ in_list (suc n) xs =
    rw named (sym (in_list-other (suc n) xs other)) in
    let rest = first_counts counts xs counted n (omega arith) in
    omega arith

-- ---- the stamps of all memories

names-append : (f : ℕ) (xs ys : List ℕ) → names f (xs ++ ys) ≡ names f xs + names f ys
unfolding names
names-append f xs ys = sum_by-append (is_frame f) xs ys

abbrev saved_stamps : List (List ℕ) → List (List ℕ) → List ℕ
saved_stamps frames tables = flat_map stamps_in (map (saved_of frames) tables)

names-saved : (f : ℕ) (frames : List (List ℕ)) (tables : List (List ℕ))
    → names f (saved_stamps frames tables) ≡ all_names f tables
names-saved f frames [] = names-nil f ∙ sym (all_names-nil f)
names-saved f frames ([] ∷ tables) =
    let c = all_names-cons f [] tables in
    let none = names-nil f in
    let rest = names-saved f frames tables in
    omega arith
names-saved f frames ((g ∷ table) ∷ tables) =
    let c = all_names-cons f (g ∷ table) tables in
    let parts = names-append f (g ∷ table) (saved_stamps frames tables) in
    let rest = names-saved f frames tables in
    omega arith

-- As many frames are used as there are stamps.
pub used_is : (frames : List (List ℕ)) (tally : Tally) (current : List ℕ) (tables : List (List ℕ))
    → IsPool frames tally current tables → taken_count tally.counts + tally.spare ≡ length tally.counts
    → length tally.counts - tally.spare - 1
    ≡ distinct_count (current ++ flat_map stamps_in (map (saved_of frames) tables))
unfolding taken_count
used_is frames tally current tables p balance =
    let all : List ℕ = current ++ saved_stamps frames tables in
    let counted : (f : ℕ) → count_of tally.counts f ≡ extra_names f + names f all = λ f.
    omega (arith, p.counted f, names-append f current (saved_stamps frames tables), names-saved f frames tables) in
    let below : (i : ℕ) → i < length all → get_or all i 0 < length tally.counts = λ i here.
    let f : ℕ = get_or all i 0 in
    count_inside tally.counts f (omega (arith, counted f, names_here f all i here refl)) in
    let n : ℕ = length tally.counts - 1 in
    let size : suc n ≡ length tally.counts = omega (arith, p.some) in
    let sums : sum_by taken (take (suc n) tally.counts) ≡ 1 + present (suc n) all =
    first_counts tally.counts all counted n (omega arith) in
    let whole : take (suc n) tally.counts ≡ tally.counts = take_all (suc n) tally.counts (omega arith) in
    let sums' : sum_by taken tally.counts ≡ 1 + present (length tally.counts) all = rw (whole, size) at sums in
    omega (arith, distinct-present (length tally.counts) all below)
