-- A slice: the items of the steps that have some, with the steps' indices, and the number of steps.
use Rattle.std.specs.Prelude.{◌≡◌, ℕ, zero, suc, ◌<◌, ◌≤◌, ◌==◌, false, List, [], ◌∷◌, length, Result, Ok, Err}
use Rattle.std.specs.Prelude.{if◌then◌else◌}
use Rattle.cx_slices.specs.Alone.{run_alone}
use Rattle.cx_slices.specs.Items.{AreItems, Items, are_none, items_of, no_items, start}
use Rattle.cx_slices.specs.Observed.{Watch}

pub record Group (G : Type 0) : Type 0 where
  pub index : ℕ
  pub items : Items G

-- the groups of these items, which begin at an index
abbrev pub groups_from : {G : Type 0} → ℕ → List (Items G) → List (Group G)
groups_from k [] = []
groups_from k (i ∷ is) =
    if are_none i then groups_from (suc k) is else record { index = k; items = i } ∷ groups_from (suc k) is

-- the items of so many steps from an index on
abbrev pub items_by_step : {G : Type 0} → ℕ → ℕ → ℕ → List (Group G) → List (Items G)
items_by_step count k zero groups = []
items_by_step count k (suc n) [] = no_items count ∷ items_by_step count (suc k) n []
items_by_step count k (suc n) (g ∷ gs) =
    if g.index == k then g.items ∷ items_by_step count (suc k) n gs
    else no_items count ∷ items_by_step count (suc k) n (g ∷ gs)

-- The indices rise from k on.
abbrev pub GroupsRise : {G : Type 0} → ℕ → List (Group G) → Type 0
GroupsRise k [] = Unit {0}
GroupsRise k (g ∷ gs) = (k ≤ g.index) × GroupsRise (suc g.index) gs

-- The indices are below the end.
abbrev pub GroupsBelow : {G : Type 0} → ℕ → List (Group G) → Type 0
GroupsBelow end [] = Unit {0}
GroupsBelow end (g ∷ gs) = (g.index < end) × GroupsBelow end gs

-- The indices rise from k on and stay below the end, and each group has an item.
abbrev pub AreGroups : {G : Type 0} → ℕ → ℕ → ℕ → List (Group G) → Type 0
AreGroups count k end [] = Unit {0}
AreGroups count k end (g ∷ gs) =
    (k ≤ g.index) × (g.index < end) × AreItems count g.items × (are_none g.items ≡ false)
    × AreGroups count (suc g.index) end gs

-- ---- a run and its slice

abbrev pub groups_of : {O G : Type 0} → Watch O G → List O → List (Group G)
groups_of m os = groups_from 0 (items_of m (start m) os)

-- all observations, or the index of the first that breaks a rule
abbrev pub all_or_broken : {O : Type 0} → ℕ → List O → Result (List O) ℕ
all_or_broken count os = if length os == count then Ok os else Err (length os)

-- the observations of so many steps alone
unfoldable pub alone_of : {O G : Type 0} → Watch O G → List (Group G) → ℕ → Result (List O) ℕ
alone_of m groups count = all_or_broken count (run_alone m (start m) (items_by_step m.count 0 count groups))
