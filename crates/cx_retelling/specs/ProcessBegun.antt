-- What a process slice goes through begins with the observations that its replay gave.
use Rattle.std.specs.Prelude.{◌≡◌, ℕ, suc, ◌≤◌, List, [], ◌∷◌, ◌++◌, Option, None, Some}
use Rattle.std.proofs.Common.{arith, ap, refl, ◌∙◌}
use Rattle.cx_alone.specs.Ahead.{IsAhead, place_of, untaken}
use Rattle.cx_alone.specs.Replaying.{Stands}
use Rattle.cx_alone.specs.declared.alone.Alone.{Alone}
use Rattle.cx_alone.proofs.Items.{items_by_step-more}
use Rattle.cx_codec.specs.Place.{Place, end_of}
use Rattle.cx_map.specs.Bytes.{AreBytes}
use Rattle.cx_observe.specs.User.{user}
use Rattle.cx_observe.specs.declared.obs.Obs.{Obs}
use Rattle.cx_slicefmt.specs.Rules.{process}
use Rattle.cx_slicefmt.specs.Scan.{scan_groups}
use Rattle.cx_slicefmt.specs.declared.items.GroupItems.{GroupItems}
use Rattle.cx_slicefmt.proofs.Scans.{scan_rises}
use Rattle.cx_slices.specs.Alone.{and_on, run_alone, step_alone}
use Rattle.cx_slices.specs.Groups.{items_by_step}
use Rattle.cx_slices.specs.Items.{Items, Known, after, start}
use Rattle.cx_slices.specs.Observed.{Watch}
use Rattle.cx_slices.specs.Settled.{SliceScan}
use Rattle.cx_retelling.specs.Through.{process_at}

pub and_begins : {O : Type 0} (more few : O → List O) → ((o : O) → (rest : List O) × (more o ≡ few o ++ rest))
    → (o : Option O) → (rest : List O) × (and_on more o ≡ and_on few o ++ rest)
and_begins more few begins None = ([], refl)
and_begins more few begins (Some o) = ((begins o).0, ap (λ (xs : List _). o ∷ xs) (begins o).1)

run_begins : {O G : Type 0} (m : Watch O G) (w : Known) (is js : List (Items G))
    → (rest : List O) × (run_alone m w (is ++ js) ≡ run_alone m w is ++ rest)
run_begins m w [] js = (run_alone m w js, refl)
run_begins m w (i ∷ is) js =
    and_begins (λ x. run_alone m (after m w x) (is ++ js)) (λ x. run_alone m (after m w x) is)
    (λ x. run_begins m (after m w x) is js) (step_alone m w i)

-- the steps that were taken are settled
untaken_upto : (upto : ℕ) (waiting : Option GroupItems) (p : Place) → AreBytes p.ahead
    → upto ≤ (untaken upto waiting p).upto
untaken_upto upto None p are = omega arith
untaken_upto upto (Some items) p are =
    let rises = (scan_rises process (suc upto) p are).upto in omega (arith, rises)

within_upto : (s : SliceScan ℕ) (end at upto : ℕ) (waiting : Option GroupItems) (p : Place) (left : Option (List ℕ))
    → IsAhead s end at upto waiting p left → at ≤ s.upto
within_upto s end at upto waiting p left ahead =
    let same : s.upto ≡ (untaken upto waiting p).upto = ap (λ (t : SliceScan ℕ). t.upto) ahead.parts in
    let more = untaken_upto upto waiting p ahead.bytes in
    omega (arith, same, more, ahead.within)

pub process_begins : (p : Place) (os : List Obs) (a : Alone) (left : Option (List ℕ)) (given input : List ℕ)
    → Stands (scan_groups process 0 p) (end_of p) os a left given input
    → (rest : List Obs) × ((process_at p).observations ≡ os ++ rest)
process_begins p os a left given input stands =
    let s : SliceScan ℕ = scan_groups process 0 p in
    let within = within_upto s (end_of p) a.at a.ahead.upto a.ahead.waiting (place_of a.ahead.reader given input) left
    stands.ahead in
    let more = items_by_step-more 32 0 a.at s.upto s.groups within in
    let run = run_begins user (start user) (items_by_step 32 0 a.at s.groups) more.rest in (
      run.0,
      ap (run_alone user (start user)) more.parts ∙ run.1 ∙ ap (λ (xs : List Obs). xs ++ run.0) stands.run.run,
    )
