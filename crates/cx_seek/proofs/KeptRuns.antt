-- What is kept of a run, as it goes on.
use Rattle.std.proofs.Common.{◌≡◌, ℕ, suc, ◌+◌, ◌*◌, ◌-◌, ◌/◌, ◌%◌, ◌^◌, ◌<◌, ◌≤◌, Bool, true, List, [], ◌∷◌, ◌++◌, length}
use Rattle.std.proofs.Common.{Option, None, Some, Result, Ok, Err, OnOk, inl, inr, refl, sym, ap, subst, ◌∙◌, arith, length-append}
use Rattle.std.specs.List.{slice_get}
use Rattle.std.proofs.lemmas.Option.{slice_get_within}
use Rattle.cx_hart.specs.HartStep.{hart_step}
use Rattle.cx_hart.specs.Whole.{Whole, machine_at, machine_of}
use Rattle.cx_hart.specs.declared.record.StepRec.{StepRec}
use Rattle.cx_log.specs.Reading.{Opened}
use Rattle.cx_log.specs.Recording.{Recording}
use Rattle.cx_log.specs.Scan.{Scan, decoded}
use Rattle.cx_machine.specs.Due.{Due}
use Rattle.cx_machine.specs.Machine.{MachineState}
use Rattle.cx_ram.specs.PhysicalMemory.{SavedMemory}
use Rattle.cx_replay.specs.Records.{Seen}
use Rattle.cx_replay.specs.Replaying.{Answers, Replaying, Stands}
use Rattle.cx_replay.specs.declared.fault.ReplayFault.{ReplayFault}
use Rattle.cx_replay.specs.declared.fault.ReplayFault.TheVariants as fault
use Rattle.cx_replay.specs.declared.progress.Progress.{Progress}
use Rattle.cx_run.specs.Due.{due_at}
use Rattle.cx_run.specs.Run.{run_of}
use Rattle.cx_seek.specs.Checkpoints.{AreCheckpoints, AreHeld, IsCheckpoint, IsMachineAt, Saves}
use Rattle.cx_seek.specs.Dues.{Noted, noted}
use Rattle.cx_seek.specs.Interval.{interval}
use Rattle.cx_seek.specs.Keeping.{HasEnded, IsKept, IsKeptBelow, IsKeptOf, IsStill, Keeps, Spaced, SpacedBelow, StopsFor}
use Rattle.cx_seek.specs.Thinned.{IsThinned, SameMoments}
use Rattle.cx_seek.specs.declared.checkpoint.Checkpoint.{Checkpoint}
use Rattle.cx_seek.specs.declared.keeping.Keeping.{Keeping}
use Rattle.cx_seek.proofs.Hands.{hands_first, hands_noted, longer}
use Rattle.cx_seek.proofs.Held.{another_snap, get_pushed, held_saved, same_moment}
use Rattle.cx_seek.proofs.Intervals.{interval-some}
use Rattle.cx_seek.proofs.Spacing.{IsFull, full, goes_below, halved, is_multiple, none_spaced, not_full, one_spaced}

-- ---- the checkpoints

still_checkpoint : (R : Recording) (old new : List (Option SavedMemory)) (notes : List Noted) (upto n : ℕ)
    (c : Checkpoint) → machine_at new c.moment ≡ machine_at old c.moment → IsCheckpoint R old notes upto n c
    → IsCheckpoint R new notes upto n c
still_checkpoint R old new notes upto n c same is = record {
  machine = is.machine;
  is = same ∙ is.is;
  there = is.there;
  below = is.below;
  next = is.next;
  hands = is.hands;
}

-- each second one was forgotten
pub keeps_thinned : (R : Recording) (before now : List (Option SavedMemory)) (notes : List Noted) (upto d removed : ℕ)
    (old new : List Checkpoint) → IsThinned removed old new → length new ≤ removed → SameMoments before now new
    → AreCheckpoints R before notes upto d old → AreCheckpoints R now notes upto (2 * d) new
keeps_thinned R before now notes upto d removed old new thinned few same are = λ j c is.
    (let within = slice_get_within new j c is in
    let from : slice_get old (2 * j) ≡ Some c = sym (thinned.below j (omega (arith, within, few))) ∙ is in
    let step : R.base + 2 * j * d ≡ R.base + j * (2 * d) = omega arith in
    still_checkpoint R before now notes upto (R.base + j * (2 * d)) c (same j c is)
    (subst (λ (n : ℕ). IsCheckpoint R before notes upto n c) step (are (2 * j) c from)))

-- one more was kept
pub keeps_saved : (R : Recording) (pages paged next : ℕ) (m : MachineState) (before now : List (Option SavedMemory))
    (notes : List Noted) (upto d : ℕ) (old new : List Checkpoint) → Saves paged next m before now old new
    → AreHeld pages before old → next ≡ length notes → upto ≡ R.base + length old * d → IsMachineAt R upto m
    → AreCheckpoints R before notes upto d old → AreCheckpoints R now notes upto d new
keeps_saved R pages paged next m before now notes upto d old new saves held behind at there are =
    subst (AreCheckpoints R now notes upto d) (sym saves.more) each
  where
    fresh : Checkpoint
    fresh = record { moment = saves.moment; next = next }

    last : IsCheckpoint R now notes upto upto fresh
    last = record {
      machine = m;
      is = saves.is;
      there = there;
      below = omega arith;
      next = omega (arith, behind);
      hands = rw behind (hands_first R.events upto notes);
    }

    each : (j : ℕ) (c : Checkpoint) → slice_get (old ++ fresh ∷ []) j ≡ Some c
        → IsCheckpoint R now notes upto (R.base + j * d) c
    each j c is = elim (get_pushed old fresh c j is) [
      | inl here ↦ still_checkpoint R before now notes upto (R.base + j * d) c
          (same_moment before now saves.moment.snap c.moment saves.others
          (another_snap before c.moment saves.moment (held.held j c here).live saves.fresh)) (are j c here)
      | inr behind_it ↦ (let step : upto ≡ R.base + j * d = at
          ∙ ap (λ (k : ℕ). R.base + k * d) (sym behind_it.0) in
          subst (λ (n : ℕ). IsCheckpoint R now notes upto n c) step
          (subst (λ (x : Checkpoint). IsCheckpoint R now notes upto upto x) (sym behind_it.1) last))
    ]

-- a step more was noted
pub keeps_noted : (R : Recording) (saved : List (Option SavedMemory)) (notes : List Noted) (at d : ℕ)
    (checkpoints : List Checkpoint) (due : Due) → due ≡ due_at R.events at
    → AreCheckpoints R saved notes at d checkpoints
    → AreCheckpoints R saved (noted at due notes) (at + 1) d checkpoints
keeps_noted R saved notes at d checkpoints due is are = λ j c here.
    (let x = are j c here in
    record {
      machine = x.machine;
      is = x.is;
      there = x.there;
      below = (let b = x.below in omega (arith, b));
      next = (let l = longer at due notes in let n = x.next in omega (arith, l, n));
      hands = hands_noted R.events (R.base + j * d) at c.next notes due x.below x.next x.hands is;
    })

-- ---- the replay

-- a fault of the replay
pub stops_of : (o : Opened) (whole : Scan) (given : List StepRec) (m : Whole) (p : Progress) (bytes : List ℕ)
    (Has : Scan → Type 0) (due : Due) (end : ℕ) (may cut : Type 0) (e : ReplayFault)
    → Answers o whole given m p bytes Has due end may cut (Err e) → StopsFor o whole end may cut e
stops_of o whole given m p bytes Has due end may cut (fault.Format f) answers = λ h. (answers h).0
stops_of o whole given m p bytes Has due end may cut (fault.Broken n) answers = answers.0
stops_of o whole given m p bytes Has due end may cut fault.ReadFault answers = λ h. (answers h).0
stops_of o whole given m p bytes Has due end may cut fault.NoMemory answers = tt

-- the run of a replay's steps
run_by_flag : (o : Opened) (whole : Scan) (given : List StepRec) (m : Whole) (p : Progress) (bytes : List ℕ)
    (Has : Scan → Type 0) → Stands o whole given m p bytes Has
    → run_of (hart_step o.header.split) (decoded o whole) (length given)
    ≡ Some (record { machine = machine_of m; records = given })
run_by_flag o whole given m p bytes Has stands =
    subst (λ (flag : Bool). run_of (hart_step flag) (decoded o whole) (length given)
    ≡ Some (record { machine = machine_of m; records = given })) stands.split stands.run

-- its machine is that of the run before the next step
pub machine_there : (o : Opened) (whole : Scan) (given : List StepRec) (m : Whole) (p : Progress) (bytes : List ℕ)
    (Has : Scan → Type 0) → Stands o whole given m p bytes Has
    → IsMachineAt (decoded o whole) p.at (machine_of m)
machine_there o whole given m p bytes Has stands =
    let count : p.at - o.header.base ≡ length given = (let c = stands.count in omega (arith, c)) in
    record {
      run = record { machine = machine_of m; records = given };
      there = ap (run_of (hart_step o.header.split) (decoded o whole)) count
          ∙ run_by_flag o whole given m p bytes Has stands;
      is = refl;
    }

pub stands_with : (o : Opened) (whole : Scan) (given : List StepRec) (m m' : Whole) (p : Progress) (bytes : List ℕ)
    (Has : Scan → Type 0) → machine_of m' ≡ machine_of m → m'.split ≡ m.split → Stands o whole given m p bytes Has
    → Stands o whole given m' p bytes Has
stands_with o whole given m m' p bytes Has same flag stands = record {
  read = stands.read;
  within = stands.within;
  count = stands.count;
  fresh = stands.fresh;
  one = stands.one;
  split = flag ∙ stands.split;
  run = rw (same, flag) stands.run;
}

pub still_first : {R : Type 0} (r : Replaying R) → IsStill r r
still_first r = record { machine = refl; split = refl; rest = refl }

pub still_on : {R : Type 0} (a b c : Replaying R) → IsStill a b → IsStill b c → IsStill a c
still_on {R} a b c first last = record {
  machine = last.machine ∙ first.machine;
  split = last.split ∙ first.split;
  rest = last.rest ∙ ap (λ (x : Replaying R). record x { machine = c.machine }) first.rest;
}

-- all steps were given
pub replay_ended : (o : Opened) (whole : Scan) (given : List StepRec) (m m' : Whole) (p : Progress) (bytes : List ℕ)
    (Has : Scan → Type 0) (p' : Progress) (bytes' : List ℕ) (Has' : Scan → Type 0) (due : Due) (end : ℕ)
    (may cut : Type 0) (kept : Keeping) → Stands o whole given m p bytes Has → p'.at ≡ p.at → m'.saved ≡ m.saved
    → Keeps (decoded o whole) m.saved p.at kept
    → Answers o whole given m' p' bytes' Has' due end may cut (Ok None)
    → may → HasEnded o whole p'.at m' kept
replay_ended o whole given m m' p bytes Has p' bytes' Has' due end may cut kept stands at saved keeps answers h =
    let now = (answers.1 h).1 in
    record {
      good = (answers.1 h).0;
      ran = record {
        given = given;
        run = run_by_flag o whole given m' p' bytes' Has' now;
        all = answers.0;
        ends = at ∙ stands.count ∙ sym answers.0;
        split = now.split;
        keeps = rw (at, saved) keeps;
      };
    }

-- ---- how many checkpoints there are

-- where there are 64 of the distance, half of them are forgotten
pub full_kept : (pages taken : ℕ) (before now : List (Option SavedMemory)) (kept new : Keeping) → 0 < taken
    → taken < 2 ^ 64 → IsKept pages (taken - 1) before kept → taken / kept.distance ≡ 64
    → AreHeld pages now new.checkpoints.items
    → IsThinned (length kept.checkpoints.items / 2) kept.checkpoints.items new.checkpoints.items
    → new.distance ≡ kept.distance * 2 → IsKeptBelow pages taken now new
full_kept pages taken before now kept new some small is many held thinned twice =
    let d : ℕ = kept.distance in
    let last : suc (taken - 1) ≡ taken = omega arith in
    let all : IsFull (taken - 1) (length kept.checkpoints.items) d =
    full (taken - 1) (length kept.checkpoints.items) d (omega arith) is.distance is.spaced
    (ap (λ (k : ℕ). k / d) last ∙ many) in
    let least : 1024 ≤ d = rw is.distance (interval-some (taken - 1)) in
    let half : length kept.checkpoints.items / 2 ≡ 32 = ap (λ (k : ℕ). k / 2) all.all in
    let count : length new.checkpoints.items + 32 ≡ 64 = (let c = thinned.count in omega (arith, c, half, all.all)) in
    let double : 2 * d ≡ new.distance = omega (arith, twice) in
    record {
      held = held;
      distance = sym double ∙ sym all.doubles ∙ ap interval last;
      spaced = subst (λ (k : ℕ). SpacedBelow k (length new.checkpoints.items) new.distance) last
          (subst (λ (x : ℕ). SpacedBelow (suc (taken - 1)) (length new.checkpoints.items) x) double
          (halved (taken - 1) (length new.checkpoints.items) d (omega (arith, least)) all.steps count));
    }

pub full_keeps : (R : Recording) (pages taken upto : ℕ) (before now : List (Option SavedMemory)) (kept new : Keeping)
    → 0 < taken → taken < 2 ^ 64 → IsKept pages (taken - 1) before kept → taken / kept.distance ≡ 64
    → IsThinned (length kept.checkpoints.items / 2) kept.checkpoints.items new.checkpoints.items
    → SameMoments before now new.checkpoints.items → new.distance ≡ kept.distance * 2 → new.notes ≡ kept.notes
    → Keeps R before upto kept → Keeps R now upto new
full_keeps R pages taken upto before now kept new some small is many thinned same twice notes keeps =
    let d : ℕ = kept.distance in
    let last : suc (taken - 1) ≡ taken = omega arith in
    let all : IsFull (taken - 1) (length kept.checkpoints.items) d =
    full (taken - 1) (length kept.checkpoints.items) d (omega arith) is.distance is.spaced
    (ap (λ (k : ℕ). k / d) last ∙ many) in
    let half : length kept.checkpoints.items / 2 ≡ 32 = ap (λ (k : ℕ). k / 2) all.all in
    let few : length new.checkpoints.items ≤ length kept.checkpoints.items / 2 =
    (let c = thinned.count in omega (arith, c, half, all.all)) in
    let double : 2 * d ≡ new.distance = omega (arith, twice) in
    subst (λ (xs : List Noted). AreCheckpoints R now xs upto new.distance new.checkpoints.items) (sym notes)
    (subst (λ (x : ℕ). AreCheckpoints R now kept.notes upto x new.checkpoints.items) double
    (keeps_thinned R before now kept.notes upto d (length kept.checkpoints.items / 2) kept.checkpoints.items
    new.checkpoints.items thinned few same keeps))

-- the distance, where it is doubled, is still small
pub double_fits : (pages taken : ℕ) (before : List (Option SavedMemory)) (kept : Keeping) → 0 < taken
    → taken < 2 ^ 64 → IsKept pages (taken - 1) before kept → taken / kept.distance ≡ 64
    → kept.distance * 2 < 2 ^ 64
double_fits pages taken before kept some small is many =
    let d : ℕ = kept.distance in
    let last : suc (taken - 1) ≡ taken = omega arith in
    let all : IsFull (taken - 1) (length kept.checkpoints.items) d =
    full (taken - 1) (length kept.checkpoints.items) d (omega arith) is.distance is.spaced
    (ap (λ (k : ℕ). k / d) last ∙ many) in
    let steps = all.steps in
    omega (arith, steps)

-- where there are fewer, all stay
pub few_kept : (pages taken : ℕ) (saved : List (Option SavedMemory)) (kept : Keeping) → 0 < taken → taken < 2 ^ 64
    → IsKept pages (taken - 1) saved kept → (taken / kept.distance ≡ 64 → ⊥) → IsKeptBelow pages taken saved kept
few_kept pages taken saved kept some small is few =
    let last : suc (taken - 1) ≡ taken = omega arith in
    record {
      held = is.held;
      distance = sym (not_full (taken - 1) kept.distance (omega arith) is.distance
          (λ e. few (ap (λ (k : ℕ). k / kept.distance) (sym last) ∙ e))) ∙ ap interval last;
      spaced = subst (λ (k : ℕ). SpacedBelow k (length kept.checkpoints.items) kept.distance) last
          (goes_below (taken - 1) (length kept.checkpoints.items) kept.distance is.spaced);
    }

below_some : (pages taken : ℕ) (saved : List (Option SavedMemory)) (kept : Keeping) → IsKeptBelow pages taken saved kept
    → 0 < kept.distance
below_some pages taken saved kept is =
    let least : 1024 ≤ kept.distance = rw is.distance (interval-some taken) in
    omega (arith, least)

-- a checkpoint stands behind these steps, or none
pub saved_kept : (pages taken next : ℕ) (m : MachineState) (before now : List (Option SavedMemory)) (kept new : Keeping)
    → IsKeptBelow pages taken before kept → taken % kept.distance ≡ 0
    → Saves pages next m before now kept.checkpoints.items new.checkpoints.items → new.distance ≡ kept.distance
    → IsKept pages taken now new
saved_kept pages taken next m before now kept new is none saves same = record {
  held = held_saved pages next m before now kept.checkpoints.items new.checkpoints.items saves is.held;
  distance = same ∙ is.distance;
  spaced = subst (λ (x : ℕ). Spaced taken (length new.checkpoints.items) x) (sym same)
      (subst (λ (k : ℕ). Spaced taken k kept.distance) (sym count)
      (one_spaced taken (length kept.checkpoints.items) kept.distance (below_some pages taken before kept is)
      is.spaced none));
}
  where
    count : length new.checkpoints.items ≡ length kept.checkpoints.items + 1
    count = ap length saves.more
        ∙ length-append kept.checkpoints.items (record { moment = saves.moment; next = next } ∷ [])

pub none_kept : (pages taken : ℕ) (saved : List (Option SavedMemory)) (kept : Keeping)
    → IsKeptBelow pages taken saved kept → (taken % kept.distance ≡ 0 → ⊥) → IsKept pages taken saved kept
none_kept pages taken saved kept is other = record {
  held = is.held;
  distance = is.distance;
  spaced = none_spaced taken (length kept.checkpoints.items) kept.distance (below_some pages taken saved kept is)
      is.spaced other;
}

pub saved_keeps : (R : Recording) (pages paged taken next : ℕ) (m : MachineState) (before now : List (Option SavedMemory))
    (kept new : Keeping) → IsKeptBelow pages taken before kept → taken % kept.distance ≡ 0
    → Saves paged next m before now kept.checkpoints.items new.checkpoints.items → new.distance ≡ kept.distance
    → new.notes ≡ kept.notes → next ≡ length kept.notes → IsMachineAt R (R.base + taken) m
    → Keeps R before (R.base + taken) kept → Keeps R now (R.base + taken) new
saved_keeps R pages paged taken next m before now kept new is none saves same notes behind there keeps =
    let at : R.base + taken ≡ R.base + length kept.checkpoints.items * kept.distance =
    ap (λ (k : ℕ). R.base + k) (is_multiple taken (length kept.checkpoints.items) kept.distance is.spaced none) in
    subst (λ (xs : List Noted). AreCheckpoints R now xs (R.base + taken) new.distance new.checkpoints.items) (sym notes)
    (subst (λ (x : ℕ). AreCheckpoints R now kept.notes (R.base + taken) x new.checkpoints.items) (sym same)
    (keeps_saved R pages paged next m before now kept.notes (R.base + taken) kept.distance kept.checkpoints.items
    new.checkpoints.items saves is.held behind at there keeps))

-- ---- one step more of a replay

pub replay_goes : (o : Opened) (whole : Scan) (given : List StepRec) (m m1 m2 : Whole) (p p1 p2 : Progress)
    (bytes bytes1 : List ℕ) (Has Has1 : Scan → Type 0) (due : Due) (end : ℕ) (may cut : Type 0) (rec : StepRec)
    (kept new : Keeping) (notes : List Noted) → Stands o whole given m p bytes Has → m1.saved ≡ m.saved
    → Answers o whole given m1 p1 bytes1 Has1 due end may cut (Ok (Some rec)) → Keeps (decoded o whole) m.saved p.at kept
    → p1.at ≡ p.at + 1 → notes ≡ noted p.at due kept.notes → p2 ≡ p1
    → (Keeps (decoded o whole) m1.saved p1.at (record kept { notes = notes })
    → IsMachineAt (decoded o whole) p1.at (machine_of m1) → Keeps (decoded o whole) m2.saved p1.at new)
    → machine_of m2 ≡ machine_of m1 → m2.split ≡ m1.split
    → IsKeptOf o whole p2.at m2 new (λ now. Stands o whole now m2 p2 bytes1 Has1) may true
replay_goes o whole given m m1 m2 p p1 p2 bytes bytes1 Has Has1 due end may cut rec kept new notes stands saved answers
    keeps next are same_progress on machine split =
    let R : Recording = decoded o whole in
    let due_is : due ≡ due_at whole.events p.at = answers.1 ∙ ap (due_at whole.events) (sym stands.count) in
    let more : AreCheckpoints R m.saved (noted p.at due kept.notes) (p.at + 1) kept.distance kept.checkpoints.items =
    keeps_noted R m.saved kept.notes p.at kept.distance kept.checkpoints.items due due_is keeps in
    let here : Keeps R m1.saved p1.at (record kept { notes = notes }) = rw (saved, next, are) more in
    let stood : Stands o whole (given ++ rec ∷ []) m2 p1 bytes1 Has1 =
    stands_with o whole (given ++ rec ∷ []) m1 m2 p1 bytes1 Has1 machine split answers.0 in
    let kept_so : Keeps R m2.saved p1.at new =
    on here (machine_there o whole (given ++ rec ∷ []) m1 p1 bytes1 Has1 answers.0) in (
      given ++ rec ∷ [],
      (
        subst (λ (q : Progress). Stands o whole (given ++ rec ∷ []) m2 q bytes1 Has1) (sym same_progress) stood,
        subst (λ (q : Progress). Keeps R m2.saved q.at new) (sym same_progress) kept_so,
      ),
    )

-- ---- answers

pub on_ok : {X E : Type 0} (P Q : Type 0) (r : Result X E) → (P → Q) → OnOk r P → OnOk r Q
on_ok P Q (Ok x) f p = f p
on_ok P Q (Err e) f p = tt

pub on_ok_both : {X E : Type 0} (P S Q : Type 0) (r : Result X E) → (P → S → Q) → OnOk r P → OnOk r S → OnOk r Q
on_ok_both P S Q (Ok x) f p s = f p s
on_ok_both P S Q (Err e) f p s = tt

pub seen_still : {R : Type 0} (seen : R → Seen) (old new : Replaying R) → IsStill old new
    → (seen new.records).pages ≡ (seen old.records).pages
seen_still {R} seen old new still = ap (λ (r : Replaying R). (seen r.records).pages) still.rest

pub saved_answer : {X E : Type 0} (r : Result X E) (pages seen paged taken next : ℕ) (m : MachineState)
    (before now : List (Option SavedMemory)) (kept new : Keeping) → seen ≡ pages → IsKeptBelow pages taken before kept
    → taken % kept.distance ≡ 0
    → OnOk r (Saves paged next m before now kept.checkpoints.items new.checkpoints.items) → OnOk r (paged ≡ seen)
    → new.distance ≡ kept.distance → OnOk r (IsKept pages taken now new)
saved_answer r pages seen paged taken next m before now kept new same is none saves counted distance =
    on_ok_both (Saves paged next m before now kept.checkpoints.items new.checkpoints.items) (paged ≡ seen)
    (IsKept pages taken now new) r
    (λ saves counted. saved_kept pages taken next m before now kept new is none
    (subst (λ (n : ℕ). Saves n next m before now kept.checkpoints.items new.checkpoints.items) (counted ∙ same) saves)
    distance) saves counted

pub saved_answer_keeps : {X E : Type 0} (r : Result X E) (pages paged taken next : ℕ) (first m : MachineState)
    (start before now : List (Option SavedMemory)) (old kept new : Keeping) → m ≡ first
    → IsKeptBelow pages taken before kept
    → ((run : Recording) (upto : ℕ) → Keeps run start upto old → Keeps run before upto kept)
    → taken % kept.distance ≡ 0 → next ≡ length kept.notes
    → OnOk r (Saves paged next m before now kept.checkpoints.items new.checkpoints.items)
    → new.distance ≡ kept.distance → new.notes ≡ kept.notes
    → OnOk r ((run : Recording) → IsMachineAt run (run.base + taken) first → Keeps run start (run.base + taken) old
    → Keeps run now (run.base + taken) new)
saved_answer_keeps r pages paged taken next first m start before now old kept new same is goes none behind saves
    distance notes =
    on_ok (Saves paged next m before now kept.checkpoints.items new.checkpoints.items)
    ((run : Recording) → IsMachineAt run (run.base + taken) first → Keeps run start (run.base + taken) old
    → Keeps run now (run.base + taken) new) r
    (λ saves run there keeps. saved_keeps run pages paged taken next m before now kept new is none saves distance notes
    behind (subst (IsMachineAt run (run.base + taken)) (sym same) there) (goes run (run.base + taken) keeps)) saves
