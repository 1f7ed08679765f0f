-- What a slicer keeps of a replay, step by step.
use Rattle.std.proofs.Common.{◌≡◌, ℕ, ◌+◌, ◌≤◌, ◌==◌, Bool, true, false, List, [], ◌∷◌, ◌++◌, length}
use Rattle.std.proofs.Common.{Err, Result, refl, append-nil}
use Rattle.std.proofs.Common.{Ok, Option, None, Some, IfSome, IsSome, arith, ap, sym, subst, ◌∙◌}
use Rattle.cx_csr.specs.Keeps.{Keeps}
use Rattle.cx_hart.specs.HartStep.{hart_step}
use Rattle.cx_hart.specs.Whole.{AtMoment, Whole, machine_at, machine_of}
use Rattle.cx_hart.specs.declared.record.StepRec.{StepRec}
use Rattle.cx_log.specs.Reading.{Opened}
use Rattle.cx_log.specs.Recording.{Recorded, Recording}
use Rattle.cx_log.specs.Scan.{Scan, decoded}
use Rattle.cx_machine.specs.Due.{Due}
use Rattle.cx_machine.specs.Machine.{MachineState, pages_of}
use Rattle.cx_map.specs.Map.{size_of_pages}
use Rattle.cx_replay.specs.Replaying.{Answers, Arrives, Stands, StepsOn, Unknown}
use Rattle.cx_replay.specs.declared.progress.Progress.{Progress}
use Rattle.cx_run.specs.Due.{due_at}
use Rattle.cx_replay.specs.declared.fault.ReplayFault.{ReplayFault}
use Rattle.cx_replay.specs.declared.fault.ReplayFault.TheVariants as fault
use Rattle.cx_ram.specs.PhysicalMemory.{SavedMemory}
use Rattle.cx_run.specs.Run.{run_of}
use Rattle.cx_run.specs.StepEvents.{has_mark}
use Rattle.cx_window.specs.Cut.{IsShown, StopsFor, Turned}
use Rattle.cx_window.specs.Marks.{AddsMarks}
use Rattle.cx_window.specs.Slicing.{HasOrder, IsFit, IsMomentOf, IsSeen, SameWindow, Slices, Slicing, is_within, window_events}
use Rattle.cx_window.specs.Slicing.{window_reads}
use Rattle.cx_window.proofs.Marking.{nothing_marked}
use Rattle.cx_window.proofs.RunSlices.{AreEventsOf, seen_there, slices_fed, slices_seen}

-- a fault of the replay
pub stops_of : (o : Opened) (whole : Scan) (given : List StepRec) (m : Whole) (p : Progress) (bytes : List ℕ)
    (Has : Scan → Type 0) (due : Due) (end : ℕ) (may cut : Type 0) (e : ReplayFault)
    → Answers o whole given m p bytes Has due end may cut (Err e) → StopsFor o whole end may cut e
stops_of o whole given m p bytes Has due end may cut (fault.Format f) answers = λ h. (answers h).0
stops_of o whole given m p bytes Has due end may cut (fault.Broken n) answers = answers.0
stops_of o whole given m p bytes Has due end may cut fault.ReadFault answers = λ h. (answers h).0
stops_of o whole given m p bytes Has due end may cut fault.NoMemory answers = tt

-- the run of a replay's steps, by the flag of the recording
run_by_flag : (o : Opened) (whole : Scan) (given : List StepRec) (m : Whole) (p : Progress) (bytes : List ℕ)
    (Has : Scan → Type 0) → Stands o whole given m p bytes Has
    → run_of (hart_step o.header.split) (decoded o whole) (length given)
    ≡ Some (record { machine = machine_of m; records = given })
run_by_flag o whole given m p bytes Has stands =
    subst (λ (flag : Bool). run_of (hart_step flag) (decoded o whole) (length given)
    ≡ Some (record { machine = machine_of m; records = given })) stands.split stands.run

-- the machine before the next step was shown
pub replay_seen : (o : Opened) (whole : Scan) (given : List StepRec) (m : Whole) (p : Progress) (bytes : List ℕ)
    (Has : Scan → Type 0) (saved : List (Option SavedMemory)) (s new : Slicing) (step : ℕ)
    → Stands o whole given m p bytes Has → step ≡ p.at
    → IsSeen (step == s.from) (machine_of m) saved m.saved s new → Slices (decoded o whole) saved given s
    → Slices (decoded o whole) m.saved given new
replay_seen o whole given m p bytes Has saved s new step stands at seen slices =
    slices_seen (decoded o whole) given s new step (machine_of m) saved m.saved (at ∙ stands.count)
    (run_by_flag o whole given m p bytes Has stands) seen slices

-- there is no step more
pub replay_ends : (o : Opened) (whole : Scan) (given : List StepRec) (m : Whole) (p : Progress) (bytes : List ℕ)
    (Has : Scan → Type 0) (m' : Whole) (p' : Progress) (bytes' : List ℕ) (Has' : Scan → Type 0) (due : Due) (end : ℕ)
    (may cut : Type 0) (Stood : List StepRec → Type 0) (saved : List (Option SavedMemory)) (s new : Slicing)
    (step at : ℕ)
    → Stands o whole given m p bytes Has → step ≡ p.at → at ≡ p.at → m'.saved ≡ m.saved
    → IsSeen (step == s.from) (machine_of m) saved m.saved s new → Slices (decoded o whole) saved given s
    → Answers o whole given m' p' bytes' Has' due end may cut (Ok None)
    → IsShown o whole at m'.saved new Stood may false
replay_ends o whole given m p bytes Has m' p' bytes' Has' due end may cut Stood saved s new step at stands here now
    still seen slices answers =
    λ h. record {
      good = (answers.1 h).0;
      gave = record {
        given = given;
        machine = machine_of m;
        run = run_by_flag o whole given m p bytes Has stands;
        all = answers.0;
        ends = now ∙ stands.count ∙ sym answers.0;
        slices = rw still (replay_seen o whole given m p bytes Has saved s new step stands here seen slices);
      };
    }

-- one step more was shown
pub replay_goes : (o : Opened) (whole : Scan) (given : List StepRec) (m : Whole) (p : Progress) (bytes : List ℕ)
    (Has : Scan → Type 0) (m' : Whole) (p' : Progress) (bytes' : List ℕ) (Has' : Scan → Type 0) (due : Due) (end : ℕ)
    (may cut : Type 0) (saved : List (Option SavedMemory)) (s mid new : Slicing) (step at : ℕ) (rec : StepRec)
    (marked : Bool)
    → Stands o whole given m p bytes Has → step ≡ p.at → m'.saved ≡ m.saved
    → IsSeen (step == s.from) (machine_of m) saved m.saved s mid → SameWindow s mid
    → Slices (decoded o whole) saved given s
    → Answers o whole given m' p' bytes' Has' due end may cut (Ok (Some rec))
    → (HasOrder (decoded o whole) → marked ≡ has_mark (o.header.base + length given) whole.events)
    → AddsMarks mid.marks new.marks (window_reads mid step rec)
    → new.events ≡ mid.events ++ window_events mid step marked due
    → new ≡ record mid { marks = new.marks; events = new.events }
    → IsShown o whole at m'.saved new (λ now. Stands o whole now m' p' bytes' Has') may true
replay_goes o whole given m p bytes Has m' p' bytes' Has' due end may cut saved s mid new step at rec marked stands here
    still seen window slices answers mark adds more same =
    let R : Recording = decoded o whole in
    let count : step ≡ o.header.base + length given = here ∙ stands.count in
    let shown : Slices R m.saved given mid =
    replay_seen o whole given m p bytes Has saved s mid step stands here seen slices in
    let are : AreEventsOf R step marked due = record {
      handed = answers.1 ∙ ap (λ n. due_at whole.events n) (sym count);
      mark = λ order. mark order ∙ ap (λ n. has_mark n whole.events) (sym count);
    } in
    let there : R.base ≤ mid.from → mid.from ≤ step → IsSome mid.moment =
    λ above passed. seen_there R given s mid step (machine_of m) saved m.saved count seen slices
    (omega (arith, above, window.from)) (omega (arith, passed, window.from)) in
    let fed : Slices R m.saved (given ++ rec ∷ []) new =
    subst (λ (x : Slicing). Slices R m.saved (given ++ rec ∷ []) x) (sym same)
    (slices_fed R m.saved given mid new.marks new.events step rec marked due count adds more are there shown) in
    (given ++ rec ∷ [], (answers.0, rw still fed))

-- one step more was taken, of which no record was made; it isn't one of the window
replay_passes : (o : Opened) (whole : Scan) (given : List StepRec) (m : Whole) (p : Progress) (bytes : List ℕ)
    (Has : Scan → Type 0) (m' : Whole) (p' : Progress) (bytes' : List ℕ) (Has' : Scan → Type 0) (due : Due) (end : ℕ)
    (may cut : Type 0) (saved : List (Option SavedMemory)) (s mid : Slicing) (step at : ℕ) (rec : StepRec)
    → Stands o whole given m p bytes Has → step ≡ p.at → m'.saved ≡ m.saved
    → IsSeen (step == s.from) (machine_of m) saved m.saved s mid → SameWindow s mid
    → Slices (decoded o whole) saved given s → is_within mid step ≡ false
    → Answers o whole given m' p' bytes' Has' due end may cut (Ok (Some rec))
    → IsShown o whole at m'.saved mid (λ now. Stands o whole now m' p' bytes' Has') may true
replay_passes o whole given m p bytes Has m' p' bytes' Has' due end may cut saved s mid step at rec stands here still
    seen window slices outside answers =
    let marked : Bool = has_mark (o.header.base + length given) whole.events in
    let reads : window_reads mid step rec ≡ [] = rw outside refl in
    let events : window_events mid step marked due ≡ [] = rw outside refl in
    replay_goes o whole given m p bytes Has m' p' bytes' Has' due end may cut saved s mid mid step at rec marked stands
    here still seen window slices answers (λ order. refl)
    (subst (λ (xs : List ℕ). AddsMarks mid.marks mid.marks xs) (sym reads) (nothing_marked mid.marks))
    (sym (append-nil mid.events) ∙ ap (λ (xs : List Recorded). mid.events ++ xs) (sym events)) refl

-- a step outside the window was taken, or there is none, or a fault came
pub replay_untold : (o : Opened) (whole : Scan) (given : List StepRec) (m : Whole) (p : Progress) (bytes : List ℕ)
    (Has : Scan → Type 0) (m' : Whole) (p' : Progress) (bytes' : List ℕ) (Has' : Scan → Type 0) (due : Due) (end : ℕ)
    (may cut : Type 0) (saved : List (Option SavedMemory)) (s mid : Slicing) (step : ℕ) (r : Result Bool ReplayFault)
    → Stands o whole given m p bytes Has → step ≡ p.at → StepsOn p.at p'.at r → m'.saved ≡ m.saved
    → IsSeen (step == s.from) (machine_of m) saved m.saved s mid → SameWindow s mid
    → Slices (decoded o whole) saved given s → is_within mid step ≡ false
    → Arrives Unknown o whole given m' p' bytes' Has' due end may cut r
    → Turned o whole p'.at m'.saved mid (λ now. Stands o whole now m' p' bytes' Has') end may cut r
replay_untold o whole given m p bytes Has m' p' bytes' Has' due end may cut saved s mid step (Ok true) stands here on
    still seen window slices outside arrives =
    replay_passes o whole given m p bytes Has m' p' bytes' Has' due end may cut saved s mid step p'.at arrives.0 stands
    here still seen window slices outside arrives.1.1
replay_untold o whole given m p bytes Has m' p' bytes' Has' due end may cut saved s mid step (Ok false) stands here on
    still seen window slices outside arrives =
    replay_ends o whole given m p bytes Has m' p' bytes' Has' due end may cut
    (λ now. Stands o whole now m' p' bytes' Has') saved s mid step p'.at stands here on still seen slices arrives
replay_untold o whole given m p bytes Has m' p' bytes' Has' due end may cut saved s mid step (Err e) stands here on
    still seen window slices outside arrives =
    stops_of o whole given m' p' bytes' Has' due end may cut e arrives

pub same_on : (old mid new : Slicing) → SameWindow old mid → SameWindow mid new → SameWindow old new
same_on old mid new first last = record {
  from = last.from ∙ first.from;
  to = last.to ∙ first.to;
  size = last.size ∙ first.size;
}

pub fed_same : (s new : Slicing) (step : ℕ) (rec : StepRec) → AddsMarks s.marks new.marks (window_reads s step rec)
    → new ≡ record s { marks = new.marks; events = new.events } → SameWindow s new
fed_same s new step rec adds is = record {
  from = ap (λ (x : Slicing). x.from) is;
  to = ap (λ (x : Slicing). x.to) is;
  size = adds.size;
}

pub fed_fits : (pages : ℕ) (saved : List (Option SavedMemory)) (s new : Slicing) (step : ℕ) (rec : StepRec)
    → AddsMarks s.marks new.marks (window_reads s step rec)
    → new ≡ record s { marks = new.marks; events = new.events } → IsFit pages saved s → IsFit pages saved new
fed_fits pages saved s new step rec adds is fit = record {
  marks = adds.size ∙ fit.marks;
  moment = subst (λ (x : Slicing). IfSome x.moment (IsMomentOf pages saved)) (sym is) fit.moment;
}

-- the machine that is kept fits
pub kept_fits : (pages : ℕ) (now : List (Option SavedMemory)) (m : MachineState) (s new : Slicing) (x : AtMoment)
    → machine_at now x ≡ Some m → Keeps (pages_of m.memory) x.state → length m.memory ≡ size_of_pages pages
    → new ≡ record s { moment = Some x } → length s.marks ≡ pages → IsFit pages now new
kept_fits pages now m s new x is keeps size made marks =
    let count : pages_of m.memory ≡ pages = omega (arith, size) in
    subst (λ (y : Slicing). IsFit pages now y) (sym made) (record {
      marks = marks;
      moment = record {
        machine = m;
        is = is;
        keeps = subst (λ (n : ℕ). Keeps n x.state) count keeps;
        size = size;
      };
    })
