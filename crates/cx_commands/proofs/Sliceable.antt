-- What an input shows of a program can be sliced, and what can be sliced can be spelled.
use Rattle.std.proofs.Common.{◌≡◌, ℕ, zero, suc, ◌+◌, ◌-◌, ◌≤◌, Bool, true, false, List, [], ◌∷◌, ◌++◌, length}
use Rattle.std.proofs.Common.{Option, None, Some, IfSome, if◌then◌else◌, Ok, refl, ap, sym, subst, ◌∙◌, arith}
use Rattle.std.proofs.lemmas.List.Elements.{filter_map-append}
use Rattle.std.specs.List.{AllByRecursion, cons_option}
use Rattle.cx_codec.specs.Place.{Place}
use Rattle.cx_hart.specs.HartStep.{hart_step}
use Rattle.cx_hart.specs.declared.record.StepRec.{StepRec}
use Rattle.cx_hart.proofs.StepKeeps.{keeps_machine}
use Rattle.cx_log.specs.Order.{KeepsRules}
use Rattle.cx_log.specs.Reading.{Opened, start_of}
use Rattle.cx_log.specs.Recording.{Recording}
use Rattle.cx_log.specs.Scan.{decoded}
use Rattle.cx_machine.specs.Machine.{IsMachine}
use Rattle.cx_machine.specs.Step.{Stepped}
use Rattle.cx_map.specs.Bytes.{AreBytes}
use Rattle.cx_observe.specs.Observation.{observation_of}
use Rattle.cx_observe.specs.Possible.{Possible}
use Rattle.cx_observe.specs.User.{user}
use Rattle.cx_observe.specs.declared.obs.Obs.{Obs}
use Rattle.cx_observe.proofs.Faithful.{user_is_faithful, user_is_total}
use Rattle.cx_observe.proofs.Fitting.{few_items, first_group, slice_fits}
use Rattle.cx_observe.proofs.Programs.{all_by_themselves}
use Rattle.cx_observe.proofs.UserLaw.{user_step}
use Rattle.cx_run.specs.Due.{due_at}
use Rattle.cx_run.specs.FirstBad.{bad_behind, first_bad}
use Rattle.cx_run.specs.Run.{Run, run_of}
use Rattle.cx_run.proofs.Accepted.{run_keeps_machine}
use Rattle.cx_run.proofs.Dues.{rules-well}
use Rattle.cx_run.proofs.Runs.{length-records, run_of-before, run_of-last, some_run}
use Rattle.cx_run.proofs.WindowOrder.{order_ends}
use Rattle.cx_slicefmt.specs.Rules.{AreSpelled, process}
use Rattle.cx_slicefmt.proofs.Entries.{groups_spelled}
use Rattle.cx_slices.specs.Groups.{groups_from, groups_of}
use Rattle.cx_slices.specs.Items.{Known, after, are_none, items_at, items_of, start}
use Rattle.cx_slices.proofs.Groups.{AreGroups-groups_of}
use Rattle.cx_slices.proofs.Runs.{possible_is_run}
use Rattle.cx_commands.specs.Doing.{there_of}
use Rattle.cx_commands.specs.Observed.{has_observation, observations_in, observed_by, occurs_in}
use Rattle.cx_commands.specs.Opening.{begun_at, scan_from}
use Rattle.cx_commands.specs.Process.{slicing}
use Rattle.cx_commands.specs.Slicing.{CanBeSliced}
use Rattle.cx_commands.specs.Streaming.{settled_steps}
use Rattle.cx_commands.proofs.Answering.{judged_good}
use Rattle.cx_commands.proofs.Doings.{refusal_behind}
use Rattle.cx_commands.proofs.Judging.{good_is_begun, text_of_begun}
use Rattle.cx_commands.proofs.LinesAgain.{steps_of}

-- ---- what a run shows is possible

all_more : (os : List Obs) (o : Option Obs) → AllByRecursion Possible os → IfSome o Possible
    → AllByRecursion Possible (os ++ cons_option o [])
all_more [] None all more = tt
all_more [] (Some o) all more = (more, tt)
all_more (p ∷ os) o all more = (all.0, all_more os o all.1 more)

one_more : (root : ℕ) (records : List StepRec) (rec : StepRec) → AllByRecursion Possible (observations_in root records)
    → IfSome (observation_of rec root) Possible → AllByRecursion Possible (observations_in root (records ++ rec ∷ []))
one_more root records rec all more =
    subst (AllByRecursion Possible) (sym (filter_map-append (λ r. observation_of r root) records (rec ∷ [])))
    (all_more (observations_in root records) (observation_of rec root) all more)

pub run_shows_possible : (root : ℕ) (R : Recording) (n : ℕ) (run : Run StepRec) → KeepsRules R
    → run_of (hart_step R.split) R n ≡ Some run → AllByRecursion Possible (observations_in root run.records)
run_shows_possible root R zero run rules is =
    let same : run ≡ record { machine = record { state = R.start; memory = R.memory }; records = [] } = cc in
    subst (λ (r : Run StepRec). AllByRecursion Possible (observations_in root r.records)) (sym same) tt
run_shows_possible root R (suc n) run rules is =
    let before = run_of-before (hart_step R.split) R n run is in
    let last = run_of-last (hart_step R.split) R n before.0 run before.1 is in
    let machine = run_keeps_machine (hart_step R.split) R n before.0 (keeps_machine R.split) rules before.1 in
    let shown : (r : Option Obs) → observation_of last.stepped.rec root ≡ r → IfSome r Possible = by_shown
    last.stepped before.0 last.goes machine in
    subst (λ (r : Run StepRec). AllByRecursion Possible (observations_in root r.records)) (sym last.leaves)
    (one_more root before.0.records last.stepped.rec (run_shows_possible root R n before.0 rules before.1)
    (shown (observation_of last.stepped.rec root) refl))
  where
    by_shown : (stepped : Stepped StepRec) (before : Run StepRec)
        → hart_step R.split before.machine (due_at R.events (R.base + n)) ≡ Some stepped
        → IsMachine R.pages before.machine
        → (r : Option Obs) → observation_of stepped.rec root ≡ r → IfSome r Possible
    by_shown stepped before goes machine None shows = tt
    by_shown stepped before goes machine (Some o) shows =
        (user_step R.split before.machine (due_at R.events (R.base + n)) stepped R.pages root o goes machine
        (rules-well R (R.base + n) rules) shows).possible

-- ---- and few

shown_few : (root : ℕ) (records : List StepRec) → length (observations_in root records) ≤ length records
shown_few root [] = omega arith
shown_few root (rec ∷ records) =
    let rest = shown_few root records in
    by_shown (observation_of rec root) rest
  where
    by_shown : (r : Option Obs) → length (observations_in root records) ≤ length records
        → length (cons_option r (observations_in root records)) ≤ suc (length records)
    by_shown None rest = omega (arith, rest)
    by_shown (Some o) rest = omega (arith, rest)

-- ---- an input that isn't refused

-- what was read of it, and what can be sliced
pub record Shows (root : ℕ) (bytes : List ℕ) : Type 0 where
  pub opened : Opened
  pub place : Place
  pub begun : begun_at (start_of bytes) ≡ Ok (opened, place)
  pub can : CanBeSliced (observed_by root opened (scan_from opened place))

pub good_shows : (root : ℕ) (bytes : List ℕ) → AreBytes bytes → (slicing root).refusal bytes ≡ None → Shows root bytes
good_shows root bytes are good =
    let both = judged_good (first_bad hart_step bytes) (there_of (λ o s. occurs_in root (settled_steps o s)) bytes)
    good in
    let begun = good_is_begun bytes both.0 in
    let o = begun.0 in
    let p = begun.1 in
    let here = judged_good (bad_behind hart_step o (scan_from o p))
    (occurs_in root (settled_steps o (scan_from o p)))
    (sym (refusal_behind (λ o s. occurs_in root (settled_steps o s)) bytes o p begun.2) ∙ good) in
    let is = text_of_begun bytes o p are begun.2 here.0 in
    let count : ℕ = (scan_from o p).upto - o.header.base in
    let all = some_run (run_of (hart_step o.header.split) (decoded o (scan_from o p)) count) is.accepted.unbroken in
    let there : settled_steps o (scan_from o p) ≡ all.0.records =
    steps_of (decoded o (scan_from o p)) count all.0 refl all.1 in
    let long : length (settled_steps o (scan_from o p)) ≡ count =
    ap length there ∙ length-records (hart_step o.header.split) (decoded o (scan_from o p)) count all.0 all.1 in
    let ends = order_ends _ _ _ _ is.accepted.rules.events in
    let fewer = shown_few root (settled_steps o (scan_from o p)) in
    record {
      opened = o;
      place = p;
      begun = begun.2;
      can = record {
        possible = subst (λ (xs : List StepRec). AllByRecursion Possible (observations_in root xs)) (sym there)
            (run_shows_possible root (decoded o (scan_from o p)) count all.0 is.accepted.rules all.1);
        some = here.1;
        few = omega (arith, fewer, long, ends.0);
      };
    }

-- ---- spelling

few_bytes : (k : ℕ) (w : Known) (os : List Obs) → AllByRecursion Possible os
    → AllByRecursion (λ g. length g.items.bytes ≤ 8) (groups_from k (items_of user w os))
few_bytes k w [] possible = tt
few_bytes k w (o ∷ os) possible =
    by_items (are_none (items_at user w o)) (few_bytes (suc k) (after user w o) os possible.1)
  where
    by_items : (none : Bool)
        → AllByRecursion (λ g. length g.items.bytes ≤ 8) (groups_from (suc k) (items_of user (after user w o) os))
        → AllByRecursion (λ g. length g.items.bytes ≤ 8) (if none then groups_from (suc k)
        (items_of user (after user w o) os)
        else record { index = k; items = items_at user w o } ∷ groups_from (suc k) (items_of user (after user w o) os))
    by_items true rest = rest
    by_items false rest = (few_items w o possible.0, rest)

begins_at_once : (os : List Obs) → has_observation os ≡ true → groups_of user os ≡ [] → (1 ≤ 0) × (0 ≤ length os)
begins_at_once [] some none = cc
begins_at_once (o ∷ os) some none = let never = sym (first_group o os) ∙ none in cc

pub can_be_spelled : (os : List Obs) → CanBeSliced os → AreSpelled process 0 (groups_of user os) (length os)
can_be_spelled os can = groups_spelled 0 (length os) (groups_of user os) can.few (begins_at_once os can.some)
    (AreGroups-groups_of user os user_is_faithful
    (possible_is_run user (start user) os user_is_total (all_by_themselves os can.possible)))
    (slice_fits os can.possible) (few_bytes 0 (start user) os can.possible)
