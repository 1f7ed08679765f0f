-- What `window` makes of an input, and what it writes of it.
use Rattle.std.proofs.Common.{◌≡◌, ℕ, ◌-◌, ◌<◌, ◌≤◌, nat_le, nat_lt, ◌&&◌, Bool, true, false, List, [], length, take}
use Rattle.std.proofs.Common.{drop}
use Rattle.std.proofs.Common.{Option, None, Some, IsSomeAnd, Result, Ok, Err, inl, inr, arith, refl, ap, sym}
use Rattle.std.proofs.Common.{subst, ◌∙◌}
use Rattle.std.proofs.lemmas.Bool.{le-leb, leb-true, lt-ltb, ltb-true}
use Rattle.std.specs.Io.KnownBytes.{Appends}
use Rattle.cx_codec.specs.Blocks.{HasFront}
use Rattle.cx_codec.specs.declared.fault.OutFault.{OutFault}
use Rattle.cx_codec.specs.declared.fault.OutFault.TheVariants.{WriteFault as write_fault, NoMemory as no_room}
use Rattle.cx_codec.specs.Place.{Place, end_of}
use Rattle.cx_codec.specs.Reads.{MeetsIn}
use Rattle.cx_codec.proofs.Putting.{nothing_put}
use Rattle.cx_hart.specs.HartStep.{hart_step}
use Rattle.cx_hart.specs.Reads.{read_indices}
use Rattle.cx_hart.specs.declared.record.StepRec.{StepRec}
use Rattle.cx_hart.proofs.SameStep.{is_framed}
use Rattle.cx_hart.proofs.StepKeeps.{keeps_machine}
use Rattle.cx_hart.proofs.StepSizes.{sets_lines}
use Rattle.cx_log.specs.Fault.{log_met}
use Rattle.cx_log.specs.declared.fault.LogFault.{LogFault}
use Rattle.cx_log.specs.Reading.{Opened, opened_at, start_of}
use Rattle.cx_log.specs.Recording.{Recording}
use Rattle.cx_log.specs.Scan.{Scan, decoded}
use Rattle.cx_log.specs.Text.{recording_text}
use Rattle.cx_map.specs.Bytes.{AreBytes}
use Rattle.cx_replay.specs.declared.fault.ReplayFault.{ReplayFault}
use Rattle.cx_replay.specs.declared.fault.ReplayFault.TheVariants as replay
use Rattle.cx_run.specs.FirstBad.{Refusal, bad_behind, first_bad}
use Rattle.cx_run.specs.Run.{Accepts, Run, run_of}
use Rattle.cx_run.specs.Window.{IsWindow, has_window}
use Rattle.cx_run.proofs.Accepted.{window_is_accepted}
use Rattle.cx_run.proofs.Alone.{window_records}
use Rattle.cx_run.proofs.Runs.{some_run}
use Rattle.cx_run.proofs.Windows.{window_is_there}
use Rattle.cx_window.specs.Cut.{HasNone, StopsFor}
use Rattle.cx_window.specs.Slice.{Sliced, written_of}
use Rattle.cx_commands.specs.Doing.{Answers, Does, IsGoodSoFar, Leaves, judged, text_in, text_of, there_of}
use Rattle.cx_commands.specs.Faults.{status_of_log, status_of_out, status_of_replay}
use Rattle.cx_commands.specs.Opening.{begun_at, scan_from}
use Rattle.cx_commands.specs.Window.{IsCut, IsReadRefusal, IsTextOf, WindowOf, no_text, of_window, text_between}
use Rattle.cx_commands.specs.Window.{window_text, windowed}
use Rattle.cx_commands.specs.declared.status.Status.{Status}
use Rattle.cx_commands.specs.declared.status.Status.TheVariants as status
use Rattle.cx_commands.proofs.Doings.{no_front, refusal_behind, refused_opening, text_behind}
use Rattle.cx_commands.proofs.Judging.{end_begun, good_is_begun, text_of_begun}

-- ---- the answer, by the first bad place behind header and pages

answer_of : (full : Opened → Scan → List ℕ) (a b : ℕ) (bytes : List ℕ) (o : Opened) (p : Place)
    → begun_at (start_of bytes) ≡ Ok (o, p)
    → (of_window full a b).refusal bytes
    ≡ judged (bad_behind hart_step o (scan_from o p)) (has_window (decoded o (scan_from o p)) a b)
answer_of full a b bytes o p begun = refusal_behind (λ o s. has_window (decoded o s) a b) bytes o p begun

-- an input that is bad before its records
pub refused_window : (full : Opened → Scan → List ℕ) (a b : ℕ) (bytes : List ℕ) (may cut : Type 0) (e : LogFault)
    → MeetsIn (log_met e) (begun_at (start_of bytes)) (end_of (start_of bytes)) may cut
    → Answers (of_window full a b) bytes may cut (status_of_log e)
refused_window full a b bytes may cut e meets =
    (refused_opening false (λ o s. has_window (decoded o s) a b) full no_text bytes may cut None e
    meets).0

-- nothing is settled of it before all was judged
pub nothing_settled : (bytes : List ℕ) → text_of no_text bytes ≡ []
unfolding text_of
nothing_settled bytes = by_opening (opened_at (start_of bytes))
  where
    by_opening : (r : Result (Opened × Place) ℕ) → text_in no_text r ≡ []
    by_opening (Ok x) = refl
    by_opening (Err o) = refl

pub nothing_written : (full : Opened → Scan → List ℕ) (a b : ℕ) (bytes : List ℕ) (may cut : Type 0)
    (base : Option (List ℕ)) (s : Status)
    → IsReadRefusal s → Leaves (of_window full a b) bytes may cut s base base
nothing_written full a b bytes may cut base (status.Format o) is = λ h.
    rw (nothing_settled bytes) (nothing_put base).written
nothing_written full a b bytes may cut base (status.Broken n) is = rw (nothing_settled bytes) (nothing_put base).written
nothing_written full a b bytes may cut base status.ReadFault is = λ h.
    rw (nothing_settled bytes) (nothing_put base).written
nothing_written full a b bytes may cut base status.NotThere is = refl
nothing_written full a b bytes may cut base status.NoMemory is = inl (no_front base _)
nothing_written full a b bytes may cut base status.Done is = absurd is
nothing_written full a b bytes may cut base status.WriteFault is = absurd is
nothing_written full a b bytes may cut base status.Usage is = absurd is
nothing_written full a b bytes may cut base status.WorldFault is = absurd is
nothing_written full a b bytes may cut base (status.NotBuilt n) is = absurd is

pub good_so_far : (n : ℕ) (there : Bool) → IsGoodSoFar n (judged None there)
good_so_far n true = tt
good_so_far n false = tt

pub refused_replay : (full : Opened → Scan → List ℕ) (a b : ℕ) (bytes : List ℕ) (may cut : Type 0) (o : Opened)
    (p : Place) (e : ReplayFault)
    → AreBytes bytes → begun_at (start_of bytes) ≡ Ok (o, p) → StopsFor o (scan_from o p) (end_of p) may cut e
    → Answers (of_window full a b) bytes may cut (status_of_replay e)
refused_replay full a b bytes may cut o p (replay.Format f) are begun stops = λ h.
    (answer_of full a b bytes o p begun ∙ rw (stops h) refl)
refused_replay full a b bytes may cut o p (replay.Broken n) are begun stops =
    answer_of full a b bytes o p begun ∙ rw stops refl
refused_replay full a b bytes may cut o p replay.ReadFault are begun stops = λ h. elim (stops h) [
  | inl none ↦ rw (answer_of full a b bytes o p begun, none)
      (good_so_far (length bytes) (has_window (decoded o (scan_from o p)) a b))
  | inr end ↦ rw (answer_of full a b bytes o p begun, end) (end_begun bytes o p are begun)
]
refused_replay full a b bytes may cut o p replay.NoMemory are begun stops = tt

pub lacks_window : (full : Opened → Scan → List ℕ) (a b : ℕ) (bytes : List ℕ) (o : Opened) (p : Place)
    → begun_at (start_of bytes) ≡ Ok (o, p)
    → HasNone o (scan_from o p) a b → (of_window full a b).refusal bytes ≡ Some status.NotThere
lacks_window full a b bytes o p begun none = answer_of full a b bytes o p begun ∙ rw (none.good, none.lacks) refl

-- ---- a window that is there

window_lies : (R W : Recording) (a b : ℕ) → IsWindow (hart_step R.split) read_indices R a b W
    → has_window R a b ≡ true
window_lies R W a b window = rw (le-leb R.base a window.from, lt-ltb a b window.some, le-leb b R.end window.to) refl

window_spelled : (o : Opened) (s : Scan) (a b : ℕ) (W : Recording)
    → IsWindow (hart_step o.header.split) read_indices (decoded o s) a b W → window_text a b o s ≡ recording_text W
window_spelled o s a b W window =
    ap (λ (r : Option (Run StepRec)). text_between (decoded o s) a b r
    (run_of (hart_step o.header.split) (decoded o s) (b - o.header.base))) window.up_to_a
    ∙ ap (text_between (decoded o s) a b (Some window.before)) window.up_to_b ∙ ap recording_text (sym window.is)

-- what a command writes of a slice of an input
pub record HasText (full : Opened → Scan → List ℕ) (a b : ℕ) (bytes text : List ℕ) : Type 0 where
  pub good : (of_window full a b).refusal bytes ≡ None
  pub is : (of_window full a b).full bytes ≡ text

pub has_text : (full : Opened → Scan → List ℕ) (a b : ℕ) (bytes : List ℕ) (s : Sliced) → (cut : IsCut a b bytes s)
    → HasText full a b bytes (full cut.opened (scan_from cut.opened cut.place))
has_text full a b bytes s cut = record {
  good = answer_of full a b bytes cut.opened cut.place cut.begun
      ∙ rw (
        cut.cuts.good,
        window_lies (decoded cut.opened (scan_from cut.opened cut.place)) (written_of s) a b
            cut.cuts.window,
      ) refl;
  is = text_behind full bytes cut.opened cut.place cut.begun;
}

-- `window` writes the recording of the slice
pub slice_text : (a b : ℕ) (bytes : List ℕ) (s : Sliced) → (cut : IsCut a b bytes s)
    → window_text a b cut.opened (scan_from cut.opened cut.place) ≡ recording_text (written_of s)
slice_text a b bytes s cut =
    window_spelled cut.opened (scan_from cut.opened cut.place) a b (written_of s) cut.cuts.window

pub writes_out : (full : Opened → Scan → List ℕ) (a b : ℕ) (bytes : List ℕ) (may cut : Type 0)
    (base held : Option (List ℕ)) (s : Sliced) (e : OutFault) → (may → IsCut a b bytes s)
    → ((c : IsCut a b bytes s) → HasFront base (full c.opened (scan_from c.opened c.place)) held)
    → Does (of_window full a b) bytes may cut base held (Err (status_of_out e))
writes_out full a b bytes may cut base held s e cut_off front = by_fault e
  where
    good : may → (of_window full a b).refusal bytes ≡ None
    good h = (has_text full a b bytes s (cut_off h)).good

    all : may → ((of_window full a b).refusal bytes ≡ None) × HasFront base ((of_window full a b).full bytes) held
    all h = (good h, rw (has_text full a b bytes s (cut_off h)).is (front (cut_off h)))

    by_fault : (f : OutFault) → Does (of_window full a b) bytes may cut base held (Err (status_of_out f))
    by_fault write_fault = (λ early h. good h, inr all)
    by_fault no_room = (tt, inr all)

pub writes_all : (full : Opened → Scan → List ℕ) (a b : ℕ) (bytes : List ℕ) (may cut : Type 0)
    (base held : Option (List ℕ)) (s : Sliced) → (may → IsCut a b bytes s)
    → ((c : IsCut a b bytes s) → Appends base held (full c.opened (scan_from c.opened c.place)))
    → Does (of_window full a b) bytes may cut base held (Ok (tt {0}))
writes_all full a b bytes may cut base held s cut_off all = (
  λ h. (has_text full a b bytes s (cut_off h)).good,
  λ h. rw (has_text full a b bytes s (cut_off h)).is (all (cut_off h)),
)

-- ---- what is written

same_split : (R W : Recording) (a b : ℕ) → IsWindow (hart_step R.split) read_indices R a b W → W.split ≡ R.split
same_split R W a b window = rw window.is refl

window_of : (R W : Recording) (a b : ℕ) (bytes : List ℕ) → IsTextOf R bytes
    → IsWindow (hart_step R.split) read_indices R a b W → WindowOf a b bytes W
window_of R W a b bytes is window =
    let rules = is.accepted.rules in
    let run = some_run (run_of (hart_step R.split) R (R.end - R.base)) is.accepted.unbroken in
    let same : W.split ≡ R.split = same_split R W a b window in
    let last : b - R.base ≤ R.end - R.base = (let to = window.to in omega arith) in
    record {
      of = R;
      is = is;
      window = window;
      accepted = subst (λ (t : Bool). Accepts (hart_step t) W) (sym same)
          (window_is_accepted (hart_step R.split) read_indices R W a b (is_framed R.split)
          (keeps_machine R.split) (sets_lines R.split) rules window);
      run = run.0;
      run_is = run.1;
      same_run = subst (λ (t : Bool). IsSomeAnd (run_of (hart_step t) W (W.end - W.base))
          (λ here. here.records ≡ take (b - a) (drop (a - R.base) run.0.records))) (sym same)
          (window_records (hart_step R.split) read_indices R W a b (R.end - R.base) run.0 (is_framed R.split) rules
          window last run.1);
    }

pub judged_good : (bad : Option Refusal) (there : Bool) → judged bad there ≡ None → (bad ≡ None) × (there ≡ true)
judged_good None true good = (refl, refl)
judged_good None false good = cc
judged_good (Some bad) there good = cc

three : (a b c : Bool) → (a && b && c) ≡ true → (a ≡ true) × ((b ≡ true) × (c ≡ true))
three true true true e = (refl, (refl, refl))
three true true false e = cc
three true false c e = cc
three false b c e = cc

pub window_within : (R : Recording) (a b : ℕ) → has_window R a b ≡ true → (R.base ≤ a) × ((a < b) × (b ≤ R.end))
window_within R a b lies =
    let parts = three (nat_le R.base a) (nat_lt a b) (nat_le b R.end) lies in
    (leb-true R.base a parts.0, (ltb-true a b parts.1.0, leb-true b R.end parts.1.1))

abbrev pub Written : ℕ → ℕ → List ℕ → Type 0
Written a b bytes = (W : Recording) × (WindowOf a b bytes W × ((windowed a b).full bytes ≡ recording_text W))

written_behind : (a b : ℕ) (bytes : List ℕ) (o : Opened) (p : Place) → AreBytes bytes
    → begun_at (start_of bytes) ≡ Ok (o, p) → (windowed a b).refusal bytes ≡ None → Written a b bytes
written_behind a b bytes o p are begun good =
    let R : Recording = decoded o (scan_from o p) in
    let both = judged_good (bad_behind hart_step o (scan_from o p)) (has_window R a b)
    (sym (answer_of (window_text a b) a b bytes o p begun) ∙ good) in
    let within = window_within R a b both.1 in
    let is = text_of_begun bytes o p are begun both.0 in
    let window = window_is_there (hart_step R.split) read_indices R a b is.accepted.unbroken within.0 within.1.0
    within.1.1 in (
      window.0,
      (
        window_of R window.0 a b bytes is window.1,
        text_behind (window_text a b) bytes o p begun ∙ window_spelled o (scan_from o p) a b window.0 window.1,
      ),
    )

pub good_is_written : (a b : ℕ) (bytes : List ℕ) → AreBytes bytes → (windowed a b).refusal bytes ≡ None
    → Written a b bytes
good_is_written a b bytes are good =
    let both = judged_good (first_bad hart_step bytes) (there_of (λ o s. has_window (decoded o s) a b) bytes) good in
    let begun = good_is_begun bytes both.0 in
    written_behind a b bytes begun.0 begun.1 are begun.2 good
