-- Items by their steps, and groups: each comes back from the other.
use Rattle.std.proofs.Common.{◌≡◌, ℕ, zero, suc, ◌+◌, ◌<◌, ◌≤◌, ◌==◌, ◌&&◌, Bool, true, false, List, [], ◌∷◌, length}
use Rattle.std.proofs.Common.{replicate, Option, None, Some, is_none, Result, Ok, Err, if◌then◌else◌, refl, sym, ap, ap₂}
use Rattle.std.proofs.Common.{subst, ◌∙◌, arith, eq-eqb, ne_eqb, eqb-true, zero-add, ⊎_elim}
use Rattle.std.proofs.lemmas.Bool.{and_parts, cases_eq}
use Rattle.std.proofs.lemmas.List.{length-replicate}
use Rattle.std.specs.List.{list_all, AllByRecursion}
use Rattle.cx_slices.specs.Alone.{run_alone}
use Rattle.cx_slices.specs.Bytes.{Byte}
use Rattle.cx_slices.specs.Groups.{
  AreGroups,
  Group,
  GroupsBelow,
  GroupsRise,
  all_or_broken,
  alone_of,
  groups_from,
  groups_of,
  items_by_step,
}
use Rattle.cx_slices.specs.Items.{AreItems, Items, are_none, is_nil, items_of, no_items, start}
use Rattle.cx_slices.specs.Observed.{IsFaithful, Watch}
use Rattle.cx_slices.specs.Runs.{IsPossibleRun}
use Rattle.cx_slices.proofs.OneStep.{same_items}
use Rattle.cx_slices.proofs.Runs.{AreItems-items_of, IsOnlyRun, length-items_of, run_alone-items_of, run_alone-only}
use Rattle.cx_slices.proofs.Small.{above, not_Ok, same_Ok, same_suc}

-- ---- no items

none_from : {X : Type 0} (o : Option X) → is_none o ≡ true → o ≡ None
none_from None is = refl
none_from (Some x) is = cc

nil_from : (es : List Byte) → is_nil es ≡ true → es ≡ []
nil_from [] is = refl
nil_from (e ∷ es) is = cc

all_none : (count : ℕ) (items : List (Option ℕ)) → length items ≡ count → list_all is_none items ≡ true
    → items ≡ replicate count None
all_none zero [] size none = refl
all_none zero (i ∷ is) size none = cc
all_none (suc n) [] size none = cc
all_none (suc n) (i ∷ is) size none =
    let parts : (is_none i ≡ true) × (list_all is_none is ≡ true)
    = and_parts (is_none i) (list_all is_none is) none in
    ap₂ (λ x xs. x ∷ xs) (none_from i parts.0) (all_none n is (same_suc (length is) n size) parts.1)

pub no_items_from : {G : Type 0} (count : ℕ) (i : Items G) → AreItems count i → are_none i ≡ true
    → i ≡ no_items count
no_items_from count i are none =
    let parts : (list_all is_none i.words ≡ true) × ((is_nil i.bytes && is_none i.given) ≡ true)
    = and_parts (list_all is_none i.words) (is_nil i.bytes && is_none i.given) none in
    let others : (is_nil i.bytes ≡ true) × (is_none i.given ≡ true)
    = and_parts (is_nil i.bytes) (is_none i.given) parts.1 in
    same_items i (no_items count) (all_none count i.words are.words parts.0) (nil_from i.bytes others.0)
    (none_from i.given others.1)

replicate_none : (count : ℕ) → list_all is_none (replicate {A = Option ℕ} count None) ≡ true
replicate_none zero = refl
replicate_none (suc n) = replicate_none n

are_none-no_items : (G : Type 0) (count : ℕ) → are_none {G = G} (no_items count) ≡ true
are_none-no_items G count = ap (λ t. t && true) (replicate_none count)

AreItems-no_items : {G : Type 0} (count : ℕ) → AreItems {G = G} count (no_items count)
AreItems-no_items count = record { words = length-replicate count None; bytes = tt }

-- ---- groups of items

AreGroups-less : {G : Type 0} (count k n end : ℕ) (groups : List (Group G)) → k ≤ n → AreGroups count n end groups
    → AreGroups count k end groups
AreGroups-less count k n end [] less are = tt
AreGroups-less count k n end (g ∷ gs) less are = (omega arith, are.1, are.2, are.3, are.4)

groups_by : {G : Type 0} (count k end : ℕ) (i : Items G) (groups : List (Group G)) (none : Bool) → are_none i ≡ none
    → k < end → AreItems count i → AreGroups count (suc k) end groups
    → AreGroups count k end (if none then groups else record { index = k; items = i } ∷ groups)
groups_by count k end i groups true is below are rest = AreGroups-less count k (suc k) end groups (omega arith) rest
groups_by count k end i groups false is below are rest = (omega arith, below, are, is, rest)

pub AreGroups-groups_from : {G : Type 0} (count k : ℕ) (is : List (Items G)) → AllByRecursion (AreItems count) is
    → AreGroups count k (k + length is) (groups_from k is)
AreGroups-groups_from count k [] are = tt
AreGroups-groups_from count k (i ∷ is) are =
    let end : suc k + length is ≡ k + suc (length is) = omega arith in
    groups_by count k (k + suc (length is)) i (groups_from (suc k) is) (are_none i) refl (omega arith) are.0
    (subst (λ (n : ℕ). AreGroups count (suc k) n (groups_from (suc k) is)) end
    (AreGroups-groups_from count (suc k) is are.1))

-- ---- items by step

later_at : {G : Type 0} (count k n : ℕ) (g : Group G) (gs : List (Group G)) → (g.index ≡ k → ⊥)
    → items_by_step count k (suc n) (g ∷ gs) ≡ no_items count ∷ items_by_step count (suc k) n (g ∷ gs)
later_at count k n g gs other = rw (ne_eqb g.index k other) refl

items_by_step-later : {G : Type 0} (count k n end : ℕ) (groups : List (Group G)) → AreGroups count (suc k) end groups
    → items_by_step count k (suc n) groups ≡ no_items count ∷ items_by_step count (suc k) n groups
items_by_step-later count k n end [] are = refl
items_by_step-later count k n end (g ∷ gs) are = later_at count k n g gs (above g.index k (omega arith))

items_by_step-here : {G : Type 0} (count k n : ℕ) (g : Group G) (gs : List (Group G)) → g.index ≡ k
    → items_by_step count k (suc n) (g ∷ gs) ≡ g.items ∷ items_by_step count (suc k) n gs
items_by_step-here count k n g gs is = rw (eq-eqb g.index k is) refl

back_by : {G : Type 0} (count k n end : ℕ) (i : Items G) (is : List (Items G)) (groups : List (Group G)) (none : Bool)
    → are_none i ≡ none → AreItems count i → AreGroups count (suc k) end groups
    → items_by_step count (suc k) n groups ≡ is
    → items_by_step count k (suc n) (if none then groups else record { index = k; items = i } ∷ groups) ≡ i ∷ is
back_by count k n end i is groups true none are later rest = items_by_step-later count k n end groups later
    ∙ ap₂ (λ x xs. x ∷ xs) (sym (no_items_from count i are none)) rest
back_by count k n end i is groups false some are later rest =
    items_by_step-here count k n (record { index = k; items = i }) groups refl ∙ ap (λ xs. i ∷ xs) rest

pub items_by_step-groups_from : {G : Type 0} (count k : ℕ) (is : List (Items G)) → AllByRecursion (AreItems count) is
    → items_by_step count k (length is) (groups_from k is) ≡ is
items_by_step-groups_from count k [] are = refl
items_by_step-groups_from count k (i ∷ is) are = back_by count k (length is) (suc k + length is) i is
    (groups_from (suc k) is) (are_none i) refl are.0 (AreGroups-groups_from count (suc k) is are.1)
    (items_by_step-groups_from count (suc k) is are.1)

groups_from-none : {G : Type 0} (count k : ℕ) (is : List (Items G))
    → groups_from k (no_items count ∷ is) ≡ groups_from (suc k) is
groups_from-none {G} count k is = rw (are_none-no_items G count) refl

groups_from-some : {G : Type 0} (k : ℕ) (i : Items G) (is : List (Items G)) → are_none i ≡ false
    → groups_from k (i ∷ is) ≡ record { index = k; items = i } ∷ groups_from (suc k) is
groups_from-some k i is some = rw some refl

group_at : {G : Type 0} (g : Group G) (k : ℕ) → g.index ≡ k → ◌≡◌ {A = Group G} (record { index = k; items = g.items }) g
group_at g k is = rw (← is) refl

nothing_left : {G : Type 0} (count k n : ℕ) → groups_from k (items_by_step {G = G} count k n []) ≡ []
nothing_left count k zero = refl
nothing_left {G} count k (suc n) = groups_from-none count k (items_by_step {G = G} count (suc k) n [])
    ∙ nothing_left count (suc k) n

end_at : (k n : ℕ) → k + suc n ≡ suc k + n
end_at k n = omega arith

at_its_index : {G : Type 0} (count k n : ℕ) (g : Group G) (gs : List (Group G)) → g.index ≡ k
    → AreGroups count k (k + suc n) (g ∷ gs)
    → (AreGroups count (suc k) (suc k + n) gs → groups_from (suc k) (items_by_step count (suc k) n gs) ≡ gs)
    → groups_from k (items_by_step count k (suc n) (g ∷ gs)) ≡ g ∷ gs
at_its_index count k n g gs is are rest = ap (groups_from k) (items_by_step-here count k n g gs is)
    ∙ (groups_from-some k g.items (items_by_step count (suc k) n gs) are.3
    ∙ ap₂ (λ x xs. x ∷ xs) (group_at g k is) (rest (subst (λ (e : ℕ). AreGroups count (suc k) e gs) (end_at k n)
    (AreGroups-less count (suc k) (suc g.index) (k + suc n) gs (omega arith) are.4))))

strictly : (a b : ℕ) → a ≤ b → (b ≡ a → ⊥) → suc a ≤ b
strictly a b less other = grind arith

at_a_later : {G : Type 0} (count k n : ℕ) (g : Group G) (gs : List (Group G)) → (g.index ≡ k → ⊥)
    → AreGroups count k (k + suc n) (g ∷ gs)
    → (AreGroups count (suc k) (suc k + n) (g ∷ gs)
    → groups_from (suc k) (items_by_step count (suc k) n (g ∷ gs)) ≡ g ∷ gs)
    → groups_from k (items_by_step count k (suc n) (g ∷ gs)) ≡ g ∷ gs
at_a_later count k n g gs other are rest = ap (groups_from k) (later_at count k n g gs other)
    ∙ (groups_from-none count k (items_by_step count (suc k) n (g ∷ gs))
    ∙ rest (subst (λ (e : ℕ). AreGroups count (suc k) e (g ∷ gs)) (end_at k n)
    (strictly k g.index are.0 other, are.1, are.2, are.3, are.4)))

pub groups_from-items_by_step : {G : Type 0} (count k n : ℕ) (groups : List (Group G))
    → AreGroups count k (k + n) groups → groups_from k (items_by_step count k n groups) ≡ groups
groups_from-items_by_step count k zero [] are = refl
groups_from-items_by_step count k zero (g ∷ gs) are = absurd (omega arith)
groups_from-items_by_step count k (suc n) [] are = nothing_left count k (suc n)
groups_from-items_by_step count k (suc n) (g ∷ gs) are = ⊎_elim
    (λ here. at_its_index count k n g gs here are (groups_from-items_by_step count (suc k) n gs))
    (λ other. at_a_later count k n g gs other are (groups_from-items_by_step count (suc k) n (g ∷ gs)))
    (cases_eq g.index k)

pub length-items_by_step : {G : Type 0} (count k n : ℕ) (groups : List (Group G))
    → length (items_by_step count k n groups) ≡ n
length-items_by_step count k zero groups = refl
length-items_by_step count k (suc n) [] = ap suc (length-items_by_step count (suc k) n [])
length-items_by_step count k (suc n) (g ∷ gs) = by_test (g.index == k)
    (length-items_by_step count (suc k) n gs) (length-items_by_step count (suc k) n (g ∷ gs))
  where
    by_test : (t : Bool) → length (items_by_step count (suc k) n gs) ≡ n
        → length (items_by_step count (suc k) n (g ∷ gs)) ≡ n
        → length (if t then g.items ∷ items_by_step count (suc k) n gs
        else no_items count ∷ items_by_step count (suc k) n (g ∷ gs)) ≡ suc n
    by_test true here later = ap suc here
    by_test false here later = ap suc later

AreItems-items_by_step : {G : Type 0} (count k n least end : ℕ) (groups : List (Group G))
    → AreGroups count least end groups → AllByRecursion (AreItems count) (items_by_step count k n groups)
AreItems-items_by_step count k zero least end groups are = tt
AreItems-items_by_step count k (suc n) least end [] are =
    (AreItems-no_items count, AreItems-items_by_step count (suc k) n least end [] tt)
AreItems-items_by_step count k (suc n) least end (g ∷ gs) are = by_test (g.index == k)
    (AreItems-items_by_step count (suc k) n (suc g.index) end gs are.4)
    (AreItems-items_by_step count (suc k) n least end (g ∷ gs) are)
  where
    by_test : (t : Bool) → AllByRecursion (AreItems count) (items_by_step count (suc k) n gs)
        → AllByRecursion (AreItems count) (items_by_step count (suc k) n (g ∷ gs))
        → AllByRecursion (AreItems count) (if t then g.items ∷ items_by_step count (suc k) n gs
        else no_items count ∷ items_by_step count (suc k) n (g ∷ gs))
    by_test true here later = (are.2, here)
    by_test false here later = (AreItems-no_items count, later)

-- ---- a run and its slice

all_or_broken-all : {O : Type 0} (count : ℕ) (os : List O) → length os ≡ count → all_or_broken count os ≡ Ok os
all_or_broken-all count os is = rw (eq-eqb (length os) count is) refl

-- Nothing stopped before the count.
pub record IsAll {O : Type 0} (count : ℕ) (all os : List O) : Type 0 where
  pub is : all ≡ os
  pub size : length os ≡ count

is_all : {O : Type 0} (n : ℕ) (all os : List O) (whole : Bool) → (length all == n) ≡ whole
    → ◌≡◌ {A = Result (List O) ℕ} (if whole then Ok all else Err (length all)) (Ok os) → IsAll n all os
is_all n all os true whole is =
    let same : all ≡ os = same_Ok all os is in
    record { is = same; size = ap length (sym same) ∙ eqb-true (length all) n whole }
is_all n all os false whole is = not_Ok (length all) os is

start_size : {O G : Type 0} (m : Watch O G) → length (start m).words ≡ m.count
start_size m = length-replicate m.count 0

pub AreGroups-groups_of : {O G : Type 0} (m : Watch O G) (os : List O) → IsFaithful m → IsPossibleRun m (start m) os
    → AreGroups m.count 0 (length os) (groups_of m os)
AreGroups-groups_of m os faithful run =
    let size : 0 + length (items_of m (start m) os) ≡ length os
    = zero-add (length (items_of m (start m) os)) ∙ length-items_of m (start m) os in
    subst (λ (n : ℕ). AreGroups m.count 0 n (groups_of m os)) size
    (AreGroups-groups_from m.count 0 (items_of m (start m) os)
    (AreItems-items_of m (start m) os faithful (start_size m) run))

pub alone_of-groups_of : {O G : Type 0} (m : Watch O G) (os : List O) → IsFaithful m → IsPossibleRun m (start m) os
    → alone_of m (groups_of m os) (length os) ≡ Ok os
unfolding alone_of
alone_of-groups_of m os faithful run =
    let back : items_by_step m.count 0 (length os) (groups_of m os) ≡ items_of m (start m) os
    = ap (λ (n : ℕ). items_by_step m.count 0 n (groups_of m os)) (sym (length-items_of m (start m) os))
    ∙ items_by_step-groups_from m.count 0 (items_of m (start m) os)
    (AreItems-items_of m (start m) os faithful (start_size m) run) in
    let went : run_alone m (start m) (items_by_step m.count 0 (length os) (groups_of m os)) ≡ os
    = ap (run_alone m (start m)) back ∙ run_alone-items_of m (start m) os faithful (start_size m) run in
    ap (all_or_broken (length os)) went ∙ all_or_broken-all (length os) os refl

-- The observations are a run, of which these are the groups and the count.
pub record IsSliceOf {O G : Type 0} (m : Watch O G) (groups : List (Group G)) (count : ℕ) (os : List O) : Type 0 where
  pub run : IsPossibleRun m (start m) os
  pub groups_are : groups ≡ groups_of m os
  pub count_is : count ≡ length os

pub alone_of-only : {O G : Type 0} (m : Watch O G) (groups : List (Group G)) (count : ℕ) (os : List O) → IsFaithful m
    → AreGroups m.count 0 count groups → alone_of m groups count ≡ Ok os → IsSliceOf m groups count os
unfolding alone_of
alone_of-only m groups count os faithful are went =
    let all : IsAll count (run_alone m (start m) (items_by_step m.count 0 count groups)) os
    = is_all count (run_alone m (start m) (items_by_step m.count 0 count groups)) os
    (length (run_alone m (start m) (items_by_step m.count 0 count groups)) == count) refl went in
    let only : IsOnlyRun m (start m) (items_by_step m.count 0 count groups)
    (run_alone m (start m) (items_by_step m.count 0 count groups))
    = run_alone-only m (start m) (items_by_step m.count 0 count groups) faithful (start_size m)
    (AreItems-items_by_step m.count 0 count 0 count groups are) in
    let os_are : IsOnlyRun m (start m) (items_by_step m.count 0 count groups) os
    = subst (IsOnlyRun m (start m) (items_by_step m.count 0 count groups)) all.is only in
    record {
      run = os_are.run;
      groups_are = sym (groups_from-items_by_step m.count 0 count groups
          (subst (λ (n : ℕ). AreGroups m.count 0 n groups)
          (sym (zero-add count)) are))
          ∙ ap (groups_from 0) (os_are.items (all.size ∙ sym (length-items_by_step m.count 0 count groups)));
      count_is = sym all.size;
    }

-- ---- the order of a slice, whatever is observed

GroupsRise-less : {G : Type 0} (k n : ℕ) (groups : List (Group G)) → k ≤ n → GroupsRise n groups → GroupsRise k groups
GroupsRise-less k n [] less rises = tt
GroupsRise-less k n (g ∷ gs) less rises = (omega arith, rises.1)

pub GroupsRise-groups_from : {G : Type 0} (k : ℕ) (is : List (Items G)) → GroupsRise k (groups_from k is)
GroupsRise-groups_from k [] = tt
GroupsRise-groups_from k (i ∷ is) = by_test (are_none i) (GroupsRise-groups_from (suc k) is)
  where
    by_test : (t : Bool) → GroupsRise (suc k) (groups_from (suc k) is)
        → GroupsRise k (if t then groups_from (suc k) is
        else record { index = k; items = i } ∷ groups_from (suc k) is)
    by_test true rest = GroupsRise-less k (suc k) (groups_from (suc k) is) (omega arith) rest
    by_test false rest = (omega arith, rest)

pub GroupsBelow-groups_from : {G : Type 0} (k end : ℕ) (is : List (Items G)) → k + length is ≤ end
    → GroupsBelow end (groups_from k is)
GroupsBelow-groups_from k end [] within = tt
GroupsBelow-groups_from k end (i ∷ is) within = by_test (are_none i)
    (GroupsBelow-groups_from (suc k) end is (omega arith))
  where
    by_test : (t : Bool) → GroupsBelow end (groups_from (suc k) is)
        → GroupsBelow end (if t then groups_from (suc k) is
        else record { index = k; items = i } ∷ groups_from (suc k) is)
    by_test true rest = rest
    by_test false rest = (omega arith, rest)

pub groups_are_below : {O G : Type 0} (m : Watch O G) (os : List O) → GroupsBelow (length os) (groups_of m os)
groups_are_below m os =
    let size : length (items_of m (start m) os) ≡ length os = length-items_of m (start m) os in
    GroupsBelow-groups_from 0 (length os) (items_of m (start m) os) (omega arith)
