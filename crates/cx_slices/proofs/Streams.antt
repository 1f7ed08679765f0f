-- Runs and slices that go on by one step.
use Rattle.std.proofs.Common.{◌≡◌, ℕ, suc, ◌+◌, ◌<◌, Bool, true, false, List, [], ◌∷◌, ◌++◌, length, Option, None}
use Rattle.std.proofs.Common.{Some, not, option_to_list, if◌then◌else◌, refl, ap, ◌∙◌, arith}
use Rattle.std.specs.List.{AllByRecursion}
use Rattle.cx_slices.specs.Alone.{and_on, run_alone, step_alone}
use Rattle.cx_slices.specs.Groups.{Group, groups_from, groups_of}
use Rattle.cx_slices.specs.Items.{
  Items,
  ItemsFit,
  Known,
  ObservationFits,
  after,
  are_none,
  items_at,
  items_of,
  known_at,
  start,
}
use Rattle.cx_slices.specs.Bytes.{stands}
use Rattle.cx_slices.specs.Observed.{Watch}
use Rattle.cx_slices.specs.Runs.{FollowsOn, IsPossibleRun}
use Rattle.cx_slices.proofs.Missing.{filter_fit}
use Rattle.cx_slices.proofs.Runs.{length-items_of}
use Rattle.cx_slices.proofs.Words.{changes_fit}
use Rattle.cx_slices.proofs.Small.{same_suc}

pub items_of-append : {O G : Type 0} (m : Watch O G) (w : Known) (os ps : List O)
    → items_of m w (os ++ ps) ≡ items_of m w os ++ items_of m (known_at m w os) ps
items_of-append m w [] ps = refl
items_of-append m w (o ∷ os) ps = ap (λ is. items_at m w o ∷ is) (items_of-append m (after m w o) os ps)

append_by : {G : Type 0} (k : ℕ) (i : Items G) (whole front rest : List (Group G)) (none : Bool)
    → whole ≡ front ++ rest → (if none then whole else record { index = k; items = i } ∷ whole)
    ≡ (if none then front else record { index = k; items = i } ∷ front) ++ rest
append_by k i whole front rest true is = is
append_by k i whole front rest false is = ap (λ gs. record { index = k; items = i } ∷ gs) is

pub groups_from-append : {G : Type 0} (k : ℕ) (is js : List (Items G))
    → groups_from k (is ++ js) ≡ groups_from k is ++ groups_from (k + length is) js
groups_from-append k [] js = ap (λ (n : ℕ). groups_from n js) (here k)
  where
    here : (n : ℕ) → n ≡ n + 0
    here n = omega arith
groups_from-append k (i ∷ is) js = append_by k i (groups_from (suc k) (is ++ js)) (groups_from (suc k) is)
    (groups_from (k + suc (length is)) js) (are_none i)
    (groups_from-append (suc k) is js ∙ ap (λ (n : ℕ). groups_from (suc k) is ++ groups_from n js) (end k (length is)))
  where
    end : (k n : ℕ) → suc k + n ≡ k + suc n
    end k n = omega arith

pub groups_of-push : {O G : Type 0} (m : Watch O G) (os : List O) (o : O) → groups_of m (os ++ o ∷ [])
    ≡ groups_of m os ++ groups_from (length os) (items_at m (known_at m (start m) os) o ∷ [])
groups_of-push m os o =
    let size : 0 + length (items_of m (start m) os) ≡ length os = from_zero (length (items_of m (start m) os))
    ∙ length-items_of m (start m) os in
    ap (groups_from 0) (items_of-append m (start m) os (o ∷ []))
    ∙ (groups_from-append 0 (items_of m (start m) os) (items_at m (known_at m (start m) os) o ∷ [])
    ∙ ap (λ (n : ℕ). groups_of m os ++ groups_from n (items_at m (known_at m (start m) os) o ∷ [])) size)
  where
    from_zero : (n : ℕ) → 0 + n ≡ n
    from_zero n = omega arith

pub IsPossibleRun-push : {O G : Type 0} (m : Watch O G) (w : Known) (os : List O) (o : O) → IsPossibleRun m w os
    → FollowsOn m (known_at m w os) o → IsPossibleRun m w (os ++ o ∷ [])
IsPossibleRun-push m w [] o run follows = (follows, tt)
IsPossibleRun-push m w (p ∷ os) o run follows = (run.0, IsPossibleRun-push m (after m w p) os o run.1 follows)

pub IsPossibleRun-pop : {O G : Type 0} (m : Watch O G) (w : Known) (os : List O) (o : O)
    → IsPossibleRun m w (os ++ o ∷ []) → IsPossibleRun m w os × FollowsOn m (known_at m w os) o
IsPossibleRun-pop m w [] o run = (tt, run.0)
IsPossibleRun-pop m w (p ∷ os) o run =
    let rest : IsPossibleRun m (after m w p) os × FollowsOn m (known_at m (after m w p) os) o
    = IsPossibleRun-pop m (after m w p) os o run.1 in
    ((run.0, rest.0), rest.1)

-- ---- a run alone

only_one : {O : Type 0} (stepped : Option O) → and_on (λ o. []) stepped ≡ option_to_list stepped
only_one None = refl
only_one (Some o) = refl

push_by : {O G : Type 0} (m : Watch O G) (w : Known) (is : List (Items G)) (i : Items G) (stepped : Option O)
    → ((o : O) → length (run_alone m (after m w o) is) ≡ length is → run_alone m (after m w o) (is ++ i ∷ [])
    ≡ run_alone m (after m w o) is
    ++ option_to_list (step_alone m (known_at m (after m w o) (run_alone m (after m w o) is)) i))
    → length (and_on (λ o. run_alone m (after m w o) is) stepped) ≡ suc (length is)
    → and_on (λ o. run_alone m (after m w o) (is ++ i ∷ [])) stepped
    ≡ and_on (λ o. run_alone m (after m w o) is) stepped
    ++ option_to_list (step_alone m (known_at m w (and_on (λ o. run_alone m (after m w o) is) stepped)) i)
push_by m w is i None rest size = cc
push_by m w is i (Some o) rest size = ap (λ ps. o ∷ ps)
    (rest o (same_suc (length (run_alone m (after m w o) is)) (length is) size))

pub run_alone-push : {O G : Type 0} (m : Watch O G) (w : Known) (is : List (Items G)) (i : Items G)
    → length (run_alone m w is) ≡ length is → run_alone m w (is ++ i ∷ [])
    ≡ run_alone m w is ++ option_to_list (step_alone m (known_at m w (run_alone m w is)) i)
run_alone-push m w [] i size = only_one (step_alone m w i)
run_alone-push m w (j ∷ is) i size = push_by m w is i (step_alone m w j)
    (λ o. run_alone-push m (after m w o) is i) size

stopped_by : {O G : Type 0} (m : Watch O G) (w : Known) (is js : List (Items G)) (stepped : Option O)
    → ((o : O) → length (run_alone m (after m w o) is) < length is
    → run_alone m (after m w o) (is ++ js) ≡ run_alone m (after m w o) is)
    → length (and_on (λ o. run_alone m (after m w o) is) stepped) < suc (length is)
    → and_on (λ o. run_alone m (after m w o) (is ++ js)) stepped ≡ and_on (λ o. run_alone m (after m w o) is) stepped
stopped_by m w is js None rest less = refl
stopped_by m w is js (Some o) rest less = ap (λ ps. o ∷ ps) (rest o (omega arith))

pub run_alone-stopped : {O G : Type 0} (m : Watch O G) (w : Known) (is js : List (Items G))
    → length (run_alone m w is) < length is → run_alone m w (is ++ js) ≡ run_alone m w is
run_alone-stopped m w [] js less = absurd (omega arith)
run_alone-stopped m w (i ∷ is) js less = stopped_by m w is js (step_alone m w i)
    (λ o. run_alone-stopped m (after m w o) is js) less

-- ---- items that fit

items_fit : {O G : Type 0} (m : Watch O G) (fits : G → Bool) (w : Known) (o : O) → ObservationFits m fits o
    → ItemsFit fits (items_at m w o)
items_fit m fits w o fit = record {
  words = changes_fit w.words (m.words o) fit.words;
  bytes = filter_fit (λ e. not (stands w.map e)) (m.seen o) fit.bytes;
  given = fit.given;
}

all_items_fit : {O G : Type 0} (m : Watch O G) (fits : G → Bool) (w : Known) (os : List O)
    → AllByRecursion (ObservationFits m fits) os → AllByRecursion (ItemsFit fits) (items_of m w os)
all_items_fit m fits w [] fit = tt
all_items_fit m fits w (o ∷ os) fit = (items_fit m fits w o fit.0, all_items_fit m fits (after m w o) os fit.1)

group_fits : {G : Type 0} (fits : G → Bool) (k : ℕ) (i : Items G) (groups : List (Group G)) (none : Bool)
    → ItemsFit fits i → AllByRecursion (λ g. ItemsFit fits g.items) groups
    → AllByRecursion (λ g. ItemsFit fits g.items) (if none then groups else record { index = k; items = i } ∷ groups)
group_fits fits k i groups true fit rest = rest
group_fits fits k i groups false fit rest = (fit, rest)

groups_fit : {G : Type 0} (fits : G → Bool) (k : ℕ) (is : List (Items G)) → AllByRecursion (ItemsFit fits) is
    → AllByRecursion (λ g. ItemsFit fits g.items) (groups_from k is)
groups_fit fits k [] fit = tt
groups_fit fits k (i ∷ is) fit = group_fits fits k i (groups_from (suc k) is) (are_none i) fit.0
    (groups_fit fits (suc k) is fit.1)

pub groups_of-fit : {O G : Type 0} (m : Watch O G) (fits : G → Bool) (os : List O)
    → AllByRecursion (ObservationFits m fits) os → AllByRecursion (λ g. ItemsFit fits g.items) (groups_of m os)
groups_of-fit m fits os fit = groups_fit fits 0 (items_of m (start m) os) (all_items_fit m fits (start m) os fit)
