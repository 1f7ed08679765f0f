-- Steps of counts and of the list of free frames.
use Rattle.std.proofs.Common.{◌≡◌, ◌≢◌, ℕ, zero, suc, ◌+◌, ◌-◌, ◌*◌, ◌^◌, ◌<◌, ◌≤◌, List, [], ◌∷◌, ◌++◌, length, get_or}
use Rattle.std.proofs.Common.{set, replicate, take, refl, sym, ap, ◌∙◌, subst, inl, inr, arith, length-set}
use Rattle.std.proofs.Common.{length-append}
use Rattle.std.specs.List.{sum_by}
use Rattle.std.proofs.lemmas.Bool.{cases_lt, ne_eqb}
use Rattle.std.proofs.lemmas.List.{get_or-set_same, get_or-set_other, get_or_past, length-replicate, get_or_append_left}
use Rattle.std.proofs.lemmas.List.{get_or-append-add, get_or-replicate, get_or-take, length-take}
use Rattle.std.proofs.Math.Nat.{mul-zero}
use Rattle.std.proofs.lemmas.List.Sums.{sum_by-set, sum_by-append}
use Rattle.std.proofs.lemmas.List.Folds.{sum_by-replicate}
use Rattle.cx_pages.specs.Counts.{IsTally, count_of, taken, taken_count}

pub taken-zero : taken 0 ≡ 0
unfolding taken
taken-zero = refl

pub taken-some : (count : ℕ) → 1 ≤ count → taken count ≡ 1
unfolding taken
taken-some zero some = absurd (omega arith)
taken-some (suc count) some = let other : suc count ≢ 0 = λ e. omega arith in rw (ne_eqb (suc count) 0 other) refl

-- A frame whose count isn't 0 is there.
pub count_inside : (counts : List ℕ) (f : ℕ) → 1 ≤ count_of counts f → f < length counts
count_inside counts f some = elim (cases_lt f (length counts)) [
  | inl here ↦ here
  | inr past ↦ let none =
      get_or_past counts f 0 past in absurd (omega arith)
]

taken_count-set : (counts : List ℕ) (f count : ℕ) → f < length counts
    → taken_count (set counts f count) + taken (count_of counts f) ≡ taken_count counts + taken count
unfolding taken_count
taken_count-set counts f count here = sum_by-set taken counts f count 0 here

-- A count that changes and doesn't become 0.
pub recounted : (counts free : List ℕ) (spare f count : ℕ) → IsTally counts free spare → 1 ≤ count_of counts f
    → 1 ≤ count
    → IsTally (set counts f count) free spare
recounted counts free spare f count t some more =
    let here : f < length counts = count_inside counts f some in
    let size : length (set counts f count) ≡ length counts = length-set counts f count in
    let before = taken-some (count_of counts f) some in
    let after = taken-some count more in
    let change = taken_count-set counts f count here in
    record {
      room = omega (arith, t.room);
      balance = omega (arith, t.balance);
      here = λ i low. subst (λ (n : ℕ). get_or free i 0 < n) (sym size) (t.here i low);
      unused = λ i low. let none = t.unused i low in
          let other : get_or free i 0 ≢ f = λ e. let there : count_of counts f ≡ 0 =
          subst (λ (g : ℕ). count_of counts g ≡ 0) e none in omega arith in
          get_or-set_other counts f (get_or free i 0) count 0 other ∙ none;
      apart = t.apart;
      most = omega (arith, t.most);
    }

-- The last free frame is taken.
pub taken_last : (counts free : List ℕ) (spare : ℕ) → IsTally counts free spare → 1 ≤ spare
    → IsTally (set counts (get_or free (spare - 1) 0) 1) free (spare - 1)
taken_last counts free spare t some =
    let last : ℕ = get_or free (spare - 1) 0 in
    let low : spare - 1 < spare = omega arith in
    let here : last < length counts = t.here (spare - 1) low in
    let none : count_of counts last ≡ 0 = t.unused (spare - 1) low in
    let size : length (set counts last 1) ≡ length counts = length-set counts last 1 in
    let before : taken (count_of counts last) ≡ 0 = rw none taken-zero in
    let after = taken-some 1 (omega arith) in
    let change = taken_count-set counts last 1 here in
    record {
      room = omega (arith, t.room);
      balance = omega (arith, t.balance);
      here = λ i below. subst (λ (n : ℕ). get_or free i 0 < n) (sym size) (t.here i (omega arith));
      unused = λ i below. let inside : i < spare = omega arith in
          let other : get_or free i 0 ≢ last = λ e. let same : i ≡ spare - 1 = t.apart i (spare - 1) inside low e in
          omega arith in
          get_or-set_other counts last (get_or free i 0) 1 0 other ∙ t.unused i inside;
      apart = λ i j il jl e. t.apart i j (omega arith) (omega arith) e;
      most = omega (arith, t.most);
    }

-- Where a frame is used, not all are spare.
pub used_left : (counts free : List ℕ) (spare f : ℕ) → IsTally counts free spare → 1 ≤ count_of counts f
    → spare < length counts
used_left counts free spare f t some =
    let here : f < length counts = count_inside counts f some in
    let before = taken-some (count_of counts f) some in
    let change = taken_count-set counts f 0 here in
    let after = taken-zero in
    omega (arith, t.balance)

-- So the list has a slot for one more free frame.
pub slot_left : (counts free : List ℕ) (spare f : ℕ) → IsTally counts free spare → 1 ≤ count_of counts f
    → spare < length free
slot_left counts free spare f t some = let left = used_left counts free spare f t some in omega (arith, t.room)

-- A frame becomes free.
pub freed : (counts free : List ℕ) (spare f : ℕ) → IsTally counts free spare → 1 ≤ count_of counts f
    → IsTally (set counts f 0) (set free spare f) (spare + 1)
freed counts free spare f t some =
    let here : f < length counts = count_inside counts f some in
    let slot : spare < length free = slot_left counts free spare f t some in
    let size : length (set counts f 0) ≡ length counts = length-set counts f 0 in
    let before = taken-some (count_of counts f) some in
    let after = taken-zero in
    let change = taken_count-set counts f 0 here in
    let at_end : get_or (set free spare f) spare 0 ≡ f = get_or-set_same free spare f 0 slot in
    let at_rest : (i : ℕ) → i < spare → get_or (set free spare f) i 0 ≡ get_or free i 0 =
    λ i low. get_or-set_other free spare i f 0 (λ e. omega arith) in
    let not_f : (i : ℕ) → i < spare → get_or free i 0 ≢ f = λ i low e. let none : count_of counts f ≡ 0 =
    subst (λ (g : ℕ). count_of counts g ≡ 0) e (t.unused i low) in omega arith in
    record {
      room = omega (arith, t.room, length-set free spare f);
      balance = omega (arith, t.balance);
      here = λ i low. elim (cases_lt i spare) [
        | inl old ↦ rw (at_rest i old, size) (t.here i old)
        | inr new ↦ let last : i ≡ spare = omega arith in rw (last, at_end, size) here
      ];
      unused = λ i low. elim (cases_lt i spare) [
        | inl old ↦ rw (at_rest i old) (get_or-set_other counts f (get_or free i 0) 0 0 (not_f i old) ∙ t.unused i old)
        | inr new ↦ let last : i ≡ spare = omega arith in rw (last, at_end) (get_or-set_same counts f 0 0 here)
      ];
      apart = λ i j il jl e. elim (cases_lt i spare) [
        | inl old ↦ elim (cases_lt j spare) [
          | inl old' ↦ t.apart i j old old' (sym (at_rest i old) ∙ e ∙ at_rest j old')
          | inr new ↦ let last : j ≡ spare = omega arith in
              absurd (not_f i old (sym (at_rest i old) ∙ e ∙ ap (λ (k : ℕ). get_or (set free spare f) k 0) last
              ∙ at_end))
        ]
        | inr new ↦ let last : i ≡ spare = omega arith in elim (cases_lt j spare) [
          | inl old ↦ absurd (not_f j old (sym (at_rest j old) ∙ sym e ∙ ap (λ (k : ℕ). get_or (set free spare f) k 0)
              last ∙ at_end))
          | inr new' ↦ omega arith
        ]
      ];
      most = omega (arith, t.most);
    }

pub spare-within : (counts free : List ℕ) (spare : ℕ) → IsTally counts free spare → spare ≤ length free
spare-within counts free spare t = omega (arith, t.balance, t.room)

-- The only frame is used.
pub first_tally : (count : ℕ) → 1 ≤ count → IsTally (count ∷ []) (0 ∷ []) 0
unfolding taken_count
first_tally count some = let one = taken-some count some in
    record {
      room = omega arith;
      balance = omega arith;
      here = λ i low. absurd (omega arith);
      unused = λ i low. absurd (omega arith);
      apart = λ i j il jl e. absurd (omega arith);
      most = omega arith;
    }

-- Frames are added, which are free.
pub grown : (counts free : List ℕ) (spare n : ℕ) → IsTally counts free spare → length counts + n < 2 ^ 32
    → (longer : List ℕ) → length counts + n ≤ length longer
    → ((i : ℕ) → i < spare → get_or longer i 0 ≡ get_or free i 0)
    → ((i : ℕ) → i < n → get_or longer (spare + i) 0 ≡ length counts + i)
    → IsTally (counts ++ replicate n 0) longer (spare + n)
unfolding taken_count
grown counts free spare n t small longer size old new =
    let all : List ℕ = counts ++ replicate n 0 in
    let total : length all ≡ length counts + n = length-append counts (replicate n 0)
    ∙ ap (λ (k : ℕ). length counts + k) (length-replicate n 0) in
    let none : taken 0 ≡ 0 = taken-zero in
    let taken' : sum_by taken all ≡ sum_by taken counts + n * taken 0 = sum_by-append taken counts (replicate n 0)
    ∙ ap (λ (k : ℕ). sum_by taken counts + k) (sum_by-replicate taken n 0) in
    let same : sum_by taken all ≡ sum_by taken counts = taken' ∙ rw (none, mul-zero n) (omega arith) in
    let first : (i : ℕ) → i < spare → (get_or longer i 0 < length counts) × (count_of counts (get_or longer i 0) ≡ 0) =
    λ i low. rw (old i low) (t.here i low, t.unused i low) in
    let last : (i : ℕ) → spare ≤ i → i < spare + n → get_or longer i 0 ≡ length counts + (i - spare) = λ i low high.
    let at : spare + (i - spare) ≡ i = omega arith in let inside : i - spare < n = omega arith in
    subst (λ (k : ℕ). get_or longer k 0 ≡ length counts + (i - spare)) at (new (i - spare) inside) in
    record {
      room = omega (arith, t.room);
      balance = omega (arith, t.balance);
      here = λ i low. elim (cases_lt i spare) [
        | inl l ↦ omega (arith, first i l)
        | inr h ↦ omega (arith, last i h low)
      ];
      unused = λ i low. elim (cases_lt i spare) [
        | inl l ↦ get_or_append_left counts (replicate n 0) 0 (get_or longer i 0) (first i l).0 ∙ (first i l).1
        | inr h ↦ rw (last i h low) (get_or-append-add counts (replicate n 0) (i - spare) 0
            ∙ get_or-replicate n (i - spare) 0 0 (omega arith))
      ];
      apart = λ i j il jl e. elim (cases_lt i spare) [
        | inl l ↦ elim (cases_lt j spare) [
          | inl l' ↦ t.apart i j l l' (sym (old i l) ∙ e ∙ old j l')
          | inr h ↦ absurd (omega (arith, first i l, last j h jl))
        ]
        | inr h ↦ elim (cases_lt j spare) [
          | inl l ↦ absurd (omega (arith, first j l, last i h il))
          | inr h' ↦ omega (arith, last i h il, last j h' jl)
        ]
      ];
      most = omega arith;
    }

-- What a list keeps when its length changes.
pub resized_at : (xs : List ℕ) (n k i : ℕ) → i < length xs → i < n → get_or (take n xs ++ replicate k 0) i 0
    ≡ get_or xs i 0
resized_at xs n k i inside below =
    get_or_append_left (take n xs) (replicate k 0) 0 i (omega (arith, length-take n xs)) ∙ get_or-take n xs i 0 below
