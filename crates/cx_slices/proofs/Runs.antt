-- Runs alone: each run goes with its items, and with no others.
use Rattle.std.proofs.Common.{◌≡◌, suc, true, List, [], ◌∷◌, length, Option, None, Some, refl, ap}
use Rattle.std.proofs.Common.{ap₂, ◌∙◌}
use Rattle.std.specs.List.{list_all, AllByRecursion}
use Rattle.cx_slices.specs.Alone.{and_on, run_alone, step_alone}
use Rattle.cx_slices.specs.Bytes.{Map, lacks}
use Rattle.cx_slices.specs.Items.{AreItems, Items, Known, after, items_of}
use Rattle.cx_slices.specs.Observed.{IsFaithful, IsPossible, IsTotal, Watch, misses}
use Rattle.cx_slices.specs.Runs.{IsPossibleRun}
use Rattle.cx_slices.specs.Bytes.{with_bytes}
use Rattle.cx_slices.proofs.OneStep.{AreItems-items_at, IsOnly, step_alone-items_at, step_alone-only}
use Rattle.cx_slices.proofs.Small.{same_suc}

pub length-items_of : {O G : Type 0} (m : Watch O G) (w : Known) (os : List O) → length (items_of m w os) ≡ length os
length-items_of m w [] = refl
length-items_of m w (o ∷ os) = ap suc (length-items_of m (after m w o) os)

pub run_alone-items_of : {O G : Type 0} (m : Watch O G) (w : Known) (os : List O) → IsFaithful m
    → length w.words ≡ m.count → IsPossibleRun m w os → run_alone m w (items_of m w os) ≡ os
run_alone-items_of m w [] faithful size run = refl
run_alone-items_of m w (o ∷ os) faithful size run =
    ap (and_on (λ p. run_alone m (after m w p) (items_of m (after m w o) os)))
    (step_alone-items_at m w o faithful size run.0)
    ∙ ap (λ ps. o ∷ ps)
    (run_alone-items_of m (after m w o) os faithful (faithful.next o run.0.possible) run.1)

pub AreItems-items_of : {O G : Type 0} (m : Watch O G) (w : Known) (os : List O) → IsFaithful m
    → length w.words ≡ m.count → IsPossibleRun m w os → AllByRecursion (AreItems m.count) (items_of m w os)
AreItems-items_of m w [] faithful size run = tt
AreItems-items_of m w (o ∷ os) faithful size run = (
  AreItems-items_at m w o faithful size run.0.possible,
  AreItems-items_of m (after m w o) os faithful (faithful.next o run.0.possible) run.1,
)

-- ---- with no others

-- The observations are a run, and where all items were gone through these are its own.
pub record IsOnlyRun {O G : Type 0} (m : Watch O G) (w : Known) (is : List (Items G)) (os : List O) : Type 0 where
  pub run : IsPossibleRun m w os
  pub items : length os ≡ length is → is ≡ items_of m w os

goes_on : {O G : Type 0} (m : Watch O G) (w : Known) (i : Items G) (is : List (Items G)) (stepped : Option O)
    → ((o : O) → stepped ≡ Some o → IsOnly m w i o)
    → ((o : O) → stepped ≡ Some o → IsOnlyRun m (after m w o) is (run_alone m (after m w o) is))
    → IsOnlyRun m w (i ∷ is) (and_on (λ o. run_alone m (after m w o) is) stepped)
goes_on m w i is None step rest = record { run = tt; items = λ size. cc }
goes_on m w i is (Some o) step rest =
    let only : IsOnly m w i o = step o refl in
    let behind : IsOnlyRun m (after m w o) is (run_alone m (after m w o) is) = rest o refl in
    record {
      run = (only.follows, behind.run);
      items = λ size. ap₂ (λ x xs. x ∷ xs) only.items
          (behind.items (same_suc (length (run_alone m (after m w o) is)) (length is) size));
    }

pub run_alone-only : {O G : Type 0} (m : Watch O G) (w : Known) (is : List (Items G)) → IsFaithful m
    → length w.words ≡ m.count → AllByRecursion (AreItems m.count) is → IsOnlyRun m w is (run_alone m w is)
run_alone-only m w [] faithful size are = record { run = tt; items = λ same. refl }
run_alone-only m w (i ∷ is) faithful size are = goes_on m w i is (step_alone m w i)
    (λ o went. step_alone-only m w i o faithful size are.0 went)
    (λ o went. run_alone-only m (after m w o) is faithful
    (faithful.next o (step_alone-only m w i o faithful size are.0 went).follows.possible) are.1)

-- ---- where nothing is taken as not there

nothing_misses : {O G : Type 0} (m : Watch O G) (map : Map) (o : O) → IsTotal m → misses m map o ≡ true
nothing_misses m map o total = ap (list_all (lacks map)) (total.none o)

pub possible_is_run : {O G : Type 0} (m : Watch O G) (w : Known) (os : List O) → IsTotal m
    → AllByRecursion (IsPossible m) os → IsPossibleRun m w os
possible_is_run m w [] total possible = tt
possible_is_run m w (o ∷ os) total possible = (
  record { possible = possible.0; misses = nothing_misses m (with_bytes (m.seen o) w.map) o total },
  possible_is_run m (after m w o) os total possible.1,
)

pub run_is_possible : {O G : Type 0} (m : Watch O G) (w : Known) (os : List O) → IsPossibleRun m w os
    → AllByRecursion (IsPossible m) os
run_is_possible m w [] run = tt
run_is_possible m w (o ∷ os) run = (run.0.possible, run_is_possible m (after m w o) os run.1)
