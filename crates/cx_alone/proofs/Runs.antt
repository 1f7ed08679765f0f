-- The run of a slice, step by step.
use Rattle.std.proofs.Common.{◌≡◌, ℕ, suc, ◌+◌, ◌<◌, nat_lt, Bool, true, false, List, [], ◌∷◌, ◌++◌}
use Rattle.std.proofs.Common.{length, Option, None, Some, option_map, option_to_list, if◌then◌else◌}
use Rattle.std.proofs.Common.{refl, sym, ap, ◌∙◌, arith, lt-ltb, le-ltb}
use Rattle.std.proofs.lemmas.List.{append-nil}
use Rattle.cx_observe.specs.User.{user}
use Rattle.cx_observe.specs.declared.obs.Obs.{Obs}
use Rattle.cx_slices.specs.Alone.{run_alone, step_alone}
use Rattle.cx_slices.specs.Groups.{GroupsRise, items_by_step}
use Rattle.cx_slices.specs.Items.{Items, Known, after, known_at, start}
use Rattle.cx_slices.specs.Observed.{Watch}
use Rattle.cx_slices.specs.Settled.{BadField, BreaksAt, SliceScan, settled_run, slice_bad}
use Rattle.cx_slices.proofs.Groups.{length-items_by_step}
use Rattle.cx_slices.proofs.Streams.{run_alone-push, run_alone-stopped}
use Rattle.cx_alone.specs.Replaying.{GaveAll, HasRun}
use Rattle.cx_alone.specs.Steps.{item_at}
use Rattle.cx_alone.proofs.Items.{BeginsWith, items_by_step-more, items_by_step-push}

known_at-push : {O G : Type 0} (m : Watch O G) (w : Known) (os : List O) (o : O)
    → known_at m w (os ++ o ∷ []) ≡ after m (known_at m w os) o
known_at-push m w [] o = refl
known_at-push m w (p ∷ os) o = known_at-push m (after m w p) os o

length-push : {O : Type 0} (os : List O) (o : O) → length (os ++ o ∷ []) ≡ suc (length os)
length-push [] o = refl
length-push (p ∷ os) o = ap suc (length-push os o)

-- The run of one step more is tried from what is known behind the run.
run_on : (whole : SliceScan ℕ) (os : List Obs) (at : ℕ) (w : Known) (stepped : Option Obs) → HasRun whole os at w
    → step_alone user w (item_at 32 at whole.groups) ≡ stepped
    → settled_run user (suc at) whole.groups ≡ os ++ option_to_list stepped
run_on whole os at w stepped has went =
    let items : List (Items ℕ) = items_by_step 32 0 at whole.groups in
    let size : length items ≡ at = length-items_by_step 32 0 at whole.groups in
    let all : length (run_alone user (start user) items) ≡ length items
    = ap length has.run ∙ (has.count ∙ sym size) in
    ap (run_alone user (start user)) (items_by_step-push 32 0 at at whole.groups has.rises (omega arith))
    ∙ (run_alone-push user (start user) items (item_at 32 at whole.groups) all
    ∙ (ap (λ (ps : List Obs). ps ++ option_to_list
    (step_alone user (known_at user (start user) ps) (item_at 32 at whole.groups))) has.run
    ∙ (ap (λ k. os ++ option_to_list (step_alone user k (item_at 32 at whole.groups))) (sym has.known)
    ∙ ap (λ s. os ++ option_to_list s) went)))

-- One step more.
pub carried : (whole : SliceScan ℕ) (os : List Obs) (o : Obs) (at : ℕ) (w now : Known) → HasRun whole os at w
    → step_alone user w (item_at 32 at whole.groups) ≡ Some o → now ≡ after user w o
    → HasRun whole (os ++ o ∷ []) (at + 1) now
carried whole os o at w now has went left =
    let next : at + 1 ≡ suc at = omega arith in
    record {
      rises = has.rises;
      run = ap (λ (n : ℕ). settled_run user n whole.groups) next ∙ run_on whole os at w (Some o) has went;
      count = length-push os o ∙ (ap suc has.count ∙ sym next);
      known = left ∙ (ap (λ k. after user k o) has.known ∙ sym (known_at-push user (start user) os o));
    }

bad_by : (whole : SliceScan ℕ) (short : Bool) (run : List Obs) → settled_run user whole.upto whole.groups ≡ run
    → nat_lt (length run) whole.upto ≡ short
    → slice_bad user whole ≡ (if short then Some (BreaksAt (length run)) else option_map BadField whole.bad)
bad_by whole short run is test =
    ap (λ (ps : List Obs). if nat_lt (length ps) whole.upto then Some (BreaksAt (length ps)) else option_map BadField whole.bad) is
    ∙ ap (λ (t : Bool). if t then Some (BreaksAt (length run)) else option_map BadField whole.bad) test

-- What a break says.
pub record Broke (whole : SliceScan ℕ) (os : List Obs) (at : ℕ) : Type 0 where
  pub bad : slice_bad user whole ≡ Some (BreaksAt at)
  pub gave : GaveAll whole os
  pub count : at ≡ length os

-- The next step breaks a rule.
pub broken : (whole : SliceScan ℕ) (os : List Obs) (at : ℕ) (w : Known) → HasRun whole os at w → at < whole.upto
    → step_alone user w (item_at 32 at whole.groups) ≡ None → Broke whole os at
broken whole os at w has within went =
    let begins : BeginsWith (items_by_step 32 0 whole.upto whole.groups) (items_by_step 32 0 (suc at) whole.groups)
    = items_by_step-more 32 0 (suc at) whole.upto whole.groups (omega (arith, within)) in
    let stopped : run_alone user (start user) (items_by_step 32 0 (suc at) whole.groups) ≡ os
    = run_on whole os at w None has went ∙ append-nil os in
    let size : length (items_by_step 32 0 (suc at) whole.groups) ≡ suc at
    = length-items_by_step 32 0 (suc at) whole.groups in
    let less : length (run_alone user (start user) (items_by_step 32 0 (suc at) whole.groups))
    < length (items_by_step 32 0 (suc at) whole.groups)
    = shorter _ _ (ap length stopped ∙ has.count) size in
    let gave : settled_run user whole.upto whole.groups ≡ os
    = ap (run_alone user (start user)) begins.parts
    ∙ (run_alone-stopped user (start user) (items_by_step 32 0 (suc at) whole.groups) begins.rest less ∙ stopped) in
    record {
      bad = bad_by whole true os gave (lt-ltb (length os) whole.upto (omega (arith, within, has.count)))
          ∙ ap (λ (n : ℕ). Some (BreaksAt n)) has.count;
      gave = gave;
      count = sym has.count;
    }
  where
    shorter : (m n : ℕ) → m ≡ at → n ≡ suc at → m < n
    shorter m n is it = omega (arith, is, it)

-- All settled steps were taken.
pub all_given : (whole : SliceScan ℕ) (os : List Obs) (at : ℕ) (w : Known) → HasRun whole os at w → at ≡ whole.upto
    → GaveAll whole os
all_given whole os at w has end = ap (λ (n : ℕ). settled_run user n whole.groups) (sym end) ∙ has.run

pub refused : (whole : SliceScan ℕ) (os : List Obs) (at : ℕ) (w : Known) (bad : Option ℕ) → HasRun whole os at w
    → at ≡ whole.upto → whole.bad ≡ bad → slice_bad user whole ≡ option_map BadField bad
refused whole os at w bad has end is =
    bad_by whole false os (all_given whole os at w has end)
    (le-ltb (length os) whole.upto (omega (arith, end, has.count)))
    ∙ ap (option_map BadField) is

-- before the first step
pub begun : (whole : SliceScan ℕ) (w : Known) → GroupsRise 0 whole.groups → w ≡ start user → HasRun whole [] 0 w
begun whole w rises known = record { rises = rises; run = refl; count = refl; known = known }
