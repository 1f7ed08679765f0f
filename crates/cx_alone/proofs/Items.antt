-- The items of a step among groups, and those of the steps below one.
use Rattle.std.proofs.Common.{◌≡◌, ℕ, zero, suc, ◌+◌, ◌≤◌, ◌<◌, ◌==◌, Bool, true, false, List, [], ◌∷◌, ◌++◌, if◌then◌else◌}
use Rattle.std.proofs.Common.{refl, sym, ap, subst, ◌∙◌, arith, eq-eqb, eqb-true, ne_eqb}
use Rattle.std.proofs.lemmas.Bool.{eqb-false}
use Rattle.cx_slices.specs.Groups.{Group, GroupsBelow, GroupsRise, items_by_step}
use Rattle.cx_slices.specs.Items.{Items, no_items}
use Rattle.cx_alone.specs.Steps.{item_at}

item_by : {G : Type 0} (count at : ℕ) (g : Group G) (gs : List (Group G)) (t : Bool) → (g.index == at) ≡ t
    → item_at count at (g ∷ gs) ≡ (if t then g.items else item_at count at gs)
item_by count at g gs t is = ap (λ (s : Bool). if s then g.items else item_at count at gs) is

apart : (i at : ℕ) → i < at → i ≡ at → ⊥
apart i at less is = omega (arith, less, is)

beyond : (i at : ℕ) → at < i → i ≡ at → ⊥
beyond i at less is = omega (arith, less, is)

pub item_at-past : {G : Type 0} (count at : ℕ) (past gs : List (Group G)) → GroupsBelow at past
    → item_at count at (past ++ gs) ≡ item_at count at gs
item_at-past count at [] gs below = refl
item_at-past count at (g ∷ past) gs below =
    item_by count at g (past ++ gs) false (ne_eqb g.index at (apart g.index at below.0))
    ∙ item_at-past count at past gs below.1

pub GroupsRise-less : {G : Type 0} (k n : ℕ) (gs : List (Group G)) → k ≤ n → GroupsRise n gs → GroupsRise k gs
GroupsRise-less k n [] less rises = tt
GroupsRise-less k n (g ∷ gs) less rises = (omega (arith, less, rises.0), rises.1)

pub item_at-later : {G : Type 0} (count at : ℕ) (gs : List (Group G)) → GroupsRise (suc at) gs
    → item_at count at gs ≡ no_items count
item_at-later count at [] rises = refl
item_at-later count at (g ∷ gs) rises =
    item_by count at g gs false (ne_eqb g.index at (beyond g.index at (omega (arith, rises.0))))
    ∙ item_at-later count at gs (GroupsRise-less (suc at) (suc g.index) gs (omega (arith, rises.0)) rises.1)

pub item_at-here : {G : Type 0} (count at : ℕ) (g : Group G) (gs : List (Group G)) → g.index ≡ at
    → item_at count at (g ∷ gs) ≡ g.items
item_at-here count at g gs is = item_by count at g gs true (eq-eqb g.index at is)

-- ---- the items of one step more

first_item : {G : Type 0} (count k j : ℕ) (g : Group G) (gs : List (Group G)) (t : Bool) → (g.index == k) ≡ t
    → GroupsRise k (g ∷ gs) → j ≡ k → items_by_step count k 1 (g ∷ gs) ≡ item_at count j (g ∷ gs) ∷ []
first_item count k j g gs true is rises same =
    ap (λ (s : Bool). if s then g.items ∷ [] else no_items count ∷ []) is
    ∙ ap (λ (i : Items _). i ∷ []) (sym (item_at-here count j g gs (eqb-true g.index k is ∙ sym same)))
first_item count k j g gs false is rises same =
    ap (λ (s : Bool). if s then g.items ∷ [] else no_items count ∷ []) is
    ∙ ap (λ (i : Items _). i ∷ []) (sym (item_at-later count j (g ∷ gs)
    (above (eqb-false g.index k is) rises.0, rises.1)))
  where
    above : (g.index ≡ k → ⊥) → k ≤ g.index → suc j ≤ g.index
    above other less = grind (arith, same)

next_item : {G : Type 0} (count k n j : ℕ) (g : Group G) (gs : List (Group G)) (t : Bool) → (g.index == k) ≡ t
    → GroupsRise k (g ∷ gs) → j ≡ k + suc n
    → ((hs : List (Group G)) → GroupsRise (suc k) hs
    → items_by_step count (suc k) (suc n) hs ≡ items_by_step count (suc k) n hs ++ item_at count j hs ∷ [])
    → items_by_step count k (suc (suc n)) (g ∷ gs)
    ≡ items_by_step count k (suc n) (g ∷ gs) ++ item_at count j (g ∷ gs) ∷ []
next_item count k n j g gs true is rises same rest =
    let here : g.index ≡ k = eqb-true g.index k is in
    let behind : item_at count j (g ∷ gs) ≡ item_at count j gs
    = item_by count j g gs false (ne_eqb g.index j (apart g.index j (omega (arith, here, same)))) in
    rw (is, behind) (ap (λ l. g.items ∷ l) (rest gs (subst (λ (i : ℕ). GroupsRise (suc i) gs) here rises.1)))
next_item count k n j g gs false is rises same rest =
    rw is (ap (λ l. no_items count ∷ l) (rest (g ∷ gs) (above (eqb-false g.index k is) rises.0, rises.1)))
  where
    above : (g.index ≡ k → ⊥) → k ≤ g.index → suc k ≤ g.index
    above other less = grind arith

pub items_by_step-push : {G : Type 0} (count k n j : ℕ) (gs : List (Group G)) → GroupsRise k gs → j ≡ k + n
    → items_by_step count k (suc n) gs ≡ items_by_step count k n gs ++ item_at count j gs ∷ []
items_by_step-push count k zero j [] rises same = refl
items_by_step-push count k zero j (g ∷ gs) rises same =
    first_item count k j g gs (g.index == k) refl rises (omega (arith, same))
items_by_step-push count k (suc n) j [] rises same =
    ap (λ l. no_items count ∷ l) (items_by_step-push count (suc k) n j [] tt (omega (arith, same)))
items_by_step-push count k (suc n) j (g ∷ gs) rises same =
    next_item count k n j g gs (g.index == k) refl rises same
    (λ hs from. items_by_step-push count (suc k) n j hs from (omega (arith, same)))

-- ---- the items of more steps begin with those of fewer

pub record BeginsWith {G : Type 0} (more few : List (Items G)) : Type 0 where
  pub rest : List (Items G)
  pub parts : more ≡ few ++ rest

one_first : {G : Type 0} (i : Items G) (more few : List (Items G)) → BeginsWith more few
    → BeginsWith (i ∷ more) (i ∷ few)
one_first i more few begins = record { rest = begins.rest; parts = ap (λ l. i ∷ l) begins.parts }

first_by : {G : Type 0} (g i : Items G) (more few more' few' : List (Items G)) (t : Bool) → BeginsWith more few
    → BeginsWith more' few' → BeginsWith (if t then g ∷ more else i ∷ more') (if t then g ∷ few else i ∷ few')
first_by g i more few more' few' true here there = one_first g more few here
first_by g i more few more' few' false here there = one_first i more' few' there

pub items_by_step-more : {G : Type 0} (count k n total : ℕ) (gs : List (Group G)) → n ≤ total
    → BeginsWith (items_by_step count k total gs) (items_by_step count k n gs)
items_by_step-more count k zero total [] less = record { rest = items_by_step count k total []; parts = refl }
items_by_step-more count k zero total (g ∷ gs) less =
    record { rest = items_by_step count k total (g ∷ gs); parts = refl }
items_by_step-more count k (suc n) zero gs less = absurd (omega (arith, less))
items_by_step-more count k (suc n) (suc total) [] less =
    one_first (no_items count) (items_by_step count (suc k) total []) (items_by_step count (suc k) n [])
    (items_by_step-more count (suc k) n total [] (omega (arith, less)))
items_by_step-more count k (suc n) (suc total) (g ∷ gs) less =
    first_by g.items (no_items count) (items_by_step count (suc k) total gs) (items_by_step count (suc k) n gs)
    (items_by_step count (suc k) total (g ∷ gs)) (items_by_step count (suc k) n (g ∷ gs)) (g.index == k)
    (items_by_step-more count (suc k) n total gs (omega (arith, less)))
    (items_by_step-more count (suc k) n total (g ∷ gs) (omega (arith, less)))
