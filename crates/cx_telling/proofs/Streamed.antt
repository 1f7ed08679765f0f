-- What a command that writes step by step makes of an input.
use Rattle.std.proofs.Common.{◌≡◌, ℕ, List, [], Option, None, Ok, Err, Bool, true, false, refl, sym, subst, ◌∙◌, inl, inr}
use Rattle.std.specs.Io.KnownBytes.{Appends}
use Rattle.cx_codec.specs.Blocks.{HasFront, whole as whole_blocks}
use Rattle.cx_codec.specs.Place.{Place, end_of}
use Rattle.cx_codec.specs.Reads.{Begins}
use Rattle.cx_codec.specs.declared.fault.OutFault.{OutFault}
use Rattle.cx_codec.specs.declared.fault.OutFault.TheVariants.{WriteFault as write_fault, NoMemory as no_room}
use Rattle.cx_hart.specs.HartStep.{hart_step}
use Rattle.cx_hart.specs.declared.record.StepRec.{StepRec}
use Rattle.cx_log.specs.Reading.{Opened, start_of}
use Rattle.cx_log.specs.Scan.{Scan}
use Rattle.cx_map.specs.Bytes.{AreBytes}
use Rattle.cx_run.specs.FirstBad.{bad_behind}
use Rattle.cx_commands.specs.Doing.{Does, IsGoodSoFar, IsUntouched, Judges, judged, text_of}
use Rattle.cx_commands.specs.Faults.{status_of_out}
use Rattle.cx_commands.specs.Opening.{begun_at, scan_from}
use Rattle.cx_commands.specs.Streaming.{FinishesOn, IsAll, IsRun, IsStreamRefusal, StopsTelling, settled_by, settled_steps}
use Rattle.cx_commands.specs.Streaming.{sought}
use Rattle.cx_commands.specs.declared.status.Status.{Status}
use Rattle.cx_commands.specs.declared.status.Status.TheVariants as status
use Rattle.cx_commands.proofs.Doings.{refusal_behind, text_behind}
use Rattle.cx_commands.proofs.Streams.{front_of}
use Rattle.cx_commands.proofs.Judging.{end_begun, text_of_begun}

-- the answer by the first bad place behind header and pages
answer_of : (bytes : List ℕ) (o : Opened) (p : Place) (there : List StepRec → Bool)
    (text : Opened → Scan → List StepRec → List ℕ) (full : Opened → Scan → List ℕ) → begun_at (start_of bytes) ≡ Ok (o, p)
    → (sought there text full).refusal bytes
    ≡ judged (bad_behind hart_step o (scan_from o p)) (there (settled_steps o (scan_from o p)))
answer_of bytes o p there text full begun = refusal_behind (λ o s. there (settled_steps o s)) bytes o p begun

good_either : (n : ℕ) (is_there : Bool) → IsGoodSoFar n (judged None is_there)
good_either n true = tt
good_either n false = tt

pub streams_stop : (there : List StepRec → Bool) (text : Opened → Scan → List StepRec → List ℕ)
    (full : Opened → Scan → List ℕ) (bytes : List ℕ)
    (may cut : Type 0) (o : Opened) (p : Place) (base held : Option (List ℕ)) (s : Status) → AreBytes bytes
    → begun_at (start_of bytes) ≡ Ok (o, p)
    → StopsTelling o (scan_from o p) (settled_by text o (scan_from o p)) (end_of p) may cut base held s
    → Does (sought there text full) bytes may cut base held (Err s)
streams_stop there text full bytes may cut o p base held (status.Format f) are begun stops = (
  λ h. answer_of bytes o p there text full begun ∙ rw (stops h).0 refl,
  λ h. rw (text_behind (settled_by text) bytes o p begun) (stops h).1,
)
streams_stop there text full bytes may cut o p base held (status.Broken n) are begun stops = (
  answer_of bytes o p there text full begun ∙ rw stops.0 refl,
  rw (text_behind (settled_by text) bytes o p begun) stops.1,
)
streams_stop there text full bytes may cut o p base held status.ReadFault are begun stops = (
  λ h. elim (stops h).0 [
    | inl none ↦ rw (answer_of bytes o p there text full begun, none) (good_either _ _)
    | inr end ↦ rw (answer_of bytes o p there text full begun, end) (end_begun bytes o p are begun)
  ],
  λ h. rw (text_behind (settled_by text) bytes o p begun) (stops h).1,
)
streams_stop there text full bytes may cut o p base held status.WriteFault are begun stops =
    (λ never. cc, inl (rw (text_behind (settled_by text) bytes o p begun) stops))
streams_stop there text full bytes may cut o p base held status.NoMemory are begun stops =
    (tt, inl (rw (text_behind (settled_by text) bytes o p begun) stops))
streams_stop there text full bytes may cut o p base held status.Done are begun stops = absurd stops
streams_stop there text full bytes may cut o p base held status.Usage are begun stops = absurd stops
streams_stop there text full bytes may cut o p base held status.NotThere are begun stops = absurd stops
streams_stop there text full bytes may cut o p base held status.WorldFault are begun stops = absurd stops
streams_stop there text full bytes may cut o p base held (status.NotBuilt n) are begun stops = absurd stops

-- nothing was told yet
pub streams_unstarted : (there : List StepRec → Bool) (text : Opened → Scan → List StepRec → List ℕ)
    (full : Opened → Scan → List ℕ)
    (bytes : List ℕ) (may cut : Type 0) (o : Opened) (p : Place) (base held : Option (List ℕ)) (e : OutFault)
    → begun_at (start_of bytes) ≡ Ok (o, p)
    → ((ys : List StepRec) → Begins (text o (scan_from o p) []) (text o (scan_from o p) ys))
    → HasFront base (text o (scan_from o p) []) held
    → Does (sought there text full) bytes may cut base held (Err (status_of_out e))
streams_unstarted there text full bytes may cut o p base held e begun grows front = by_fault e
  where
    more : HasFront base (text_of (settled_by text) bytes) held
    more = rw (text_behind (settled_by text) bytes o p begun)
        (front_of base held _ _ (grows (settled_steps o (scan_from o p))) front)

    by_fault : (f : OutFault) → Does (sought there text full) bytes may cut base held (Err (status_of_out f))
    by_fault write_fault = (λ never. cc, inl more)
    by_fault no_room = (tt, inl more)

-- ---- the end

-- where nothing is bad, all steps were told, and the records are in order up to the end
pub run_is_all : (bytes : List ℕ) (o : Opened) (p : Place) (given : List StepRec) (at : ℕ) (may : Type 0)
    → AreBytes bytes → begun_at (start_of bytes) ≡ Ok (o, p) → IsRun o (scan_from o p) given at may → may
    → IsAll o (scan_from o p) given at
run_is_all bytes o p given at may are begun run h =
    let is = text_of_begun bytes o p are begun (run.good h) in
    record {
      order = is.accepted.rules.events;
      all = run.all;
      count = run.count;
      ends = run.count ∙ sym run.gave;
    }

pub streams_done : (there : List StepRec → Bool) (text : Opened → Scan → List StepRec → List ℕ)
    (full : Opened → Scan → List ℕ) (bytes : List ℕ)
    (may cut : Type 0) (o : Opened) (p : Place) (base held : Option (List ℕ)) (given : List StepRec) (at : ℕ)
    → begun_at (start_of bytes) ≡ Ok (o, p) → IsRun o (scan_from o p) given at may
    → there given ≡ true → (may → FinishesOn {E = OutFault} base (full o (scan_from o p)) held (Ok (tt {0})))
    → Does (sought there text full) bytes may cut base held (Ok (tt {0}))
streams_done there text full bytes may cut o p base held given at begun run found finishes = (
  λ h. answer_of bytes o p there text full begun ∙ rw (run.good h, sym run.all, found) refl,
  λ h. rw (text_behind full bytes o p begun) (finishes h),
)

pub streams_unfinished : (there : List StepRec → Bool) (text : Opened → Scan → List StepRec → List ℕ)
    (full : Opened → Scan → List ℕ)
    (bytes : List ℕ) (may cut : Type 0) (o : Opened) (p : Place) (base held : Option (List ℕ)) (given : List StepRec)
    (at : ℕ) (e : OutFault) → begun_at (start_of bytes) ≡ Ok (o, p) → IsRun o (scan_from o p) given at may
    → there given ≡ true → (may → HasFront base (full o (scan_from o p)) held)
    → Does (sought there text full) bytes may cut base held (Err (status_of_out e))
streams_unfinished there text full bytes may cut o p base held given at e begun run found finishes = by_fault e
  where
    front : may → ((sought there text full).refusal bytes ≡ None) × HasFront base (text_of full bytes) held
    front h = (
      answer_of bytes o p there text full begun ∙ rw (run.good h, sym run.all, found) refl,
      rw (text_behind full bytes o p begun) (finishes h),
    )

    by_fault : (f : OutFault) → Does (sought there text full) bytes may cut base held (Err (status_of_out f))
    by_fault write_fault = (λ never. cc, inr front)
    by_fault no_room = (tt, inr front)

-- what is sought isn't among the steps
pub streams_missing : (there : List StepRec → Bool) (text : Opened → Scan → List StepRec → List ℕ)
    (full : Opened → Scan → List ℕ) (bytes : List ℕ) (may cut : Type 0) (o : Opened) (p : Place)
    (base held : Option (List ℕ)) (given : List StepRec) (at : ℕ) → begun_at (start_of bytes) ≡ Ok (o, p)
    → IsRun o (scan_from o p) given at may → there given ≡ false
    → whole_blocks (text o (scan_from o p) given) ≡ []
    → Appends base held (whole_blocks (text o (scan_from o p) given))
    → Does (sought there text full) bytes may cut base held (Err status.NotThere)
streams_missing there text full bytes may cut o p base held given at begun run missing unwritten written = (
  λ h. answer_of bytes o p there text full begun ∙ rw (run.good h, sym run.all, missing) refl,
  subst (λ (t : List ℕ). Appends base held t) unwritten written,
)

-- before it is known whether what is sought is there
pub told_is_early : (s : Status) → IsStreamRefusal false s → Judges true s → ⊥
told_is_early status.Done is j = is
told_is_early status.Usage is j = j
told_is_early (status.Format o) is j = j
told_is_early (status.Broken n) is j = j
told_is_early status.NotThere is j = cc
told_is_early status.ReadFault is j = j
told_is_early status.WriteFault is j = cc
told_is_early status.WorldFault is j = is
told_is_early status.NoMemory is j = j
told_is_early (status.NotBuilt n) is j = j

pub out_is_early : (e : OutFault) → Judges true (status_of_out e) → ⊥
out_is_early write_fault j = cc
out_is_early no_room j = j

pub stream_writes : (seeks : Bool) (s : Status) → IsStreamRefusal seeks s → IsUntouched true s → ⊥
stream_writes seeks status.Done is j = j
stream_writes seeks status.Usage is j = is
stream_writes seeks (status.Format o) is j = cc
stream_writes seeks (status.Broken n) is j = cc
stream_writes seeks status.NotThere is j = cc
stream_writes seeks status.ReadFault is j = cc
stream_writes seeks status.WriteFault is j = j
stream_writes seeks status.WorldFault is j = is
stream_writes seeks status.NoMemory is j = j
stream_writes seeks (status.NotBuilt n) is j = is
