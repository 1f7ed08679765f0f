-- What an input settles, and where it is bad.
use Rattle.std.proofs.Common.{◌≡◌, ℕ, suc, ◌≤◌, ◌==◌, nat_lt, Bool, true, false, List, [], ◌∷◌, length, Option}
use Rattle.std.proofs.Common.{None, Some, option_map, Result, Ok, Err, if◌then◌else◌, refl, sym, arith}
use Rattle.std.proofs.Common.{eq-eqb, eqb-true}
use Rattle.std.proofs.lemmas.Bool.{le-ltb, ltb-false}
use Rattle.cx_slices.specs.Alone.{and_on, run_alone, step_alone}
use Rattle.cx_slices.specs.Groups.{Group, all_or_broken, alone_of, items_by_step}
use Rattle.cx_slices.specs.Items.{Items, Known, after, start}
use Rattle.cx_slices.specs.Observed.{Watch}
use Rattle.cx_slices.specs.Settled.{BadField, BreaksAt, SliceScan, settled_run, slice_bad}
use Rattle.cx_slices.proofs.Groups.{length-items_by_step}
use Rattle.cx_slices.proofs.Small.{none_is_some, not_Ok}

at_most : {O : Type 0} (rest : O → List O) (n : ℕ) (stepped : Option O) → ((o : O) → length (rest o) ≤ n)
    → length (and_on rest stepped) ≤ suc n
at_most rest n None most = omega arith
at_most rest n (Some o) most = let behind : length (rest o) ≤ n = most o in omega arith

length-run_alone : {O G : Type 0} (m : Watch O G) (w : Known) (is : List (Items G))
    → length (run_alone m w is) ≤ length is
length-run_alone m w [] = omega arith
length-run_alone m w (i ∷ is) = at_most (λ o. run_alone m (after m w o) is) (length is) (step_alone m w i)
    (λ o. length-run_alone m (after m w o) is)

pub settled_at_most : {O G : Type 0} (m : Watch O G) (upto : ℕ) (groups : List (Group G))
    → length (settled_run m upto groups) ≤ upto
settled_at_most m upto groups =
    let most : length (settled_run m upto groups) ≤ length (items_by_step m.count 0 upto groups)
    = length-run_alone m (start m) (items_by_step m.count 0 upto groups) in
    let size : length (items_by_step m.count 0 upto groups) ≡ upto = length-items_by_step m.count 0 upto groups in
    omega arith

no_field : (bad : Option ℕ) → option_map BadField bad ≡ None → bad ≡ None
no_field None is = refl
no_field (Some o) is = none_is_some (BadField o) (sym is)

none_bad : (short : Bool) (k : ℕ) (bad : Option ℕ) → (if short then Some (BreaksAt k) else option_map BadField bad) ≡ None
    → (short ≡ false) × (bad ≡ None)
none_bad true k bad is = none_is_some (BreaksAt k) (sym is)
none_bad false k bad is = (refl, no_field bad is)

all_there_is : {O : Type 0} (count : ℕ) (os : List O) → length os ≡ count → all_or_broken count os ≡ Ok os
all_there_is count os is = rw (eq-eqb (length os) count is) refl

is_count : {O : Type 0} (count : ℕ) (os ps : List O) (whole : Bool) → (length os == count) ≡ whole
    → ◌≡◌ {A = Result (List O) ℕ} (if whole then Ok os else Err (length os)) (Ok ps) → length os ≡ count
is_count count os ps true whole is = eqb-true (length os) count whole
is_count count os ps false whole is = not_Ok (length os) ps is

pub good_goes_alone : {O G : Type 0} (m : Watch O G) (s : SliceScan G) → slice_bad m s ≡ None
    → (s.bad ≡ None) × (alone_of m s.groups s.upto ≡ Ok (settled_run m s.upto s.groups))
unfolding alone_of
good_goes_alone m s none =
    let parts : (nat_lt (length (settled_run m s.upto s.groups)) s.upto ≡ false) × (s.bad ≡ None)
    = none_bad (nat_lt (length (settled_run m s.upto s.groups)) s.upto) (length (settled_run m s.upto s.groups))
    s.bad none in
    let not_less : s.upto ≤ length (settled_run m s.upto s.groups)
    = ltb-false (length (settled_run m s.upto s.groups)) s.upto parts.0 in
    let most : length (settled_run m s.upto s.groups) ≤ s.upto = settled_at_most m s.upto s.groups in
    (parts.1, all_there_is s.upto (settled_run m s.upto s.groups) (omega arith))

pub alone_is_good : {O G : Type 0} (m : Watch O G) (s : SliceScan G)
    → (s.bad ≡ None) × (alone_of m s.groups s.upto ≡ Ok (settled_run m s.upto s.groups)) → slice_bad m s ≡ None
unfolding alone_of
alone_is_good m s goes =
    let size : length (settled_run m s.upto s.groups) ≡ s.upto
    = is_count s.upto (settled_run m s.upto s.groups) (settled_run m s.upto s.groups)
    (length (settled_run m s.upto s.groups) == s.upto) refl goes.1 in
    rw (le-ltb (length (settled_run m s.upto s.groups)) s.upto (omega arith), goes.0) refl
