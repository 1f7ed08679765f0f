-- The roots of a recording, taken in step by step, and their lines.
use Rattle.std.proofs.Common.{◌≡◌, ℕ, ◌+◌, List, [], ◌∷◌, ◌++◌, length, Option, None, Ok, Err, refl, ap, sym, ◌∙◌, inl, inr}
use Rattle.std.proofs.Common.{false, true, Result, arith, subst}
use Rattle.std.proofs.lemmas.List.{append-nil}
use Rattle.std.specs.Io.KnownBytes.{Appends}
use Rattle.cx_codec.specs.Blocks.{HasFront, StandsFor, Waiting}
use Rattle.cx_codec.specs.Place.{Place, end_of}
use Rattle.cx_codec.specs.Puts.{Finishes, Putting}
use Rattle.cx_codec.specs.Reads.{MeetsIn}
use Rattle.cx_codec.specs.declared.fault.OutFault.{OutFault}
use Rattle.cx_codec.specs.declared.fault.OutFault.TheVariants.{WriteFault as write_fault, NoMemory as no_room}
use Rattle.cx_codec.proofs.Putting.{nothing_put}
use Rattle.cx_hart.specs.HartStep.{hart_step}
use Rattle.cx_hart.specs.declared.record.StepRec.{StepRec}
use Rattle.cx_inspect.specs.Lines.{root_lines}
use Rattle.cx_inspect.specs.Roots.{noted, roots_from}
use Rattle.cx_inspect.specs.declared.roots.Tally.{Tally}
use Rattle.cx_inspect.proofs.Counting.{roots_more}
use Rattle.cx_io.specs.Cause.{HasCause}
use Rattle.cx_log.specs.Fault.{log_met}
use Rattle.cx_log.specs.Reading.{Opened, start_of}
use Rattle.cx_log.specs.declared.fault.LogFault.{LogFault}
use Rattle.cx_map.specs.Bytes.{AreBytes}
use Rattle.cx_run.specs.FirstBad.{bad_behind}
use Rattle.cx_commands.specs.Doing.{Answers, CausedBy, Does, Judges, Leaves, judged}
use Rattle.cx_commands.specs.Faults.{status_of_log, status_of_out}
use Rattle.cx_commands.specs.Opening.{begun_at, scan_from}
use Rattle.cx_commands.specs.Roots.{HasRoots, IsCountRefusal, listing_roots, roots_text, without_sink}
use Rattle.cx_commands.specs.Streaming.{FinishesOn, IsStreamRefusal, IsStreamStatus, StopsTelling}
use Rattle.cx_commands.specs.Window.{no_text}
use Rattle.cx_commands.specs.declared.status.Status.{Status}
use Rattle.cx_commands.specs.declared.status.Status.TheVariants as status
use Rattle.cx_commands.proofs.Answering.{nothing_settled}
use Rattle.cx_commands.proofs.Doings.{no_front, refusal_behind, refused_opening, text_behind}
use Rattle.cx_commands.proofs.Judging.{end_begun}

-- ---- step by step

pub roots_noted : (roots now : List (ℕ × Tally)) (base step : ℕ) (given : List StepRec) (rec : StepRec)
    → step ≡ base + length given → roots ≡ roots_from base given → now ≡ noted step rec roots
    → now ≡ roots_from base (given ++ rec ∷ [])
roots_noted roots now base step given rec at so_far is =
    is ∙ ap (noted step rec) so_far ∙ ap (λ (n : ℕ). noted n rec (roots_from base given)) at
    ∙ sym (roots_more [] base given rec)

-- an output that has put nothing
pub fresh_put : (base : Option (List ℕ)) (w : Waiting) → w ≡ record { bytes = []; live = true }
    → StandsFor base [] w.bytes base
fresh_put base w is = rw is (nothing_put base)

pub finishes_on : {result : Result (Unit {0}) OutFault} (base held : Option (List ℕ)) (text : List ℕ) (mid : Putting)
    (faults : ℕ) → StandsFor base text mid.output.bytes mid.held → Finishes write_fault [] mid held faults result
    → FinishesOn base text held result
finishes_on {result} base held text mid faults told finishes = by_result result finishes
  where
    by_result : (r : Result (Unit {0}) OutFault) → Finishes write_fault [] mid held faults r
        → FinishesOn base text held r
    by_result (Ok u) f = rw (append-nil text) at (f.written base text told)
    by_result (Err e) f = rw (append-nil text) at (f.refused base text told)

-- ---- an input that is refused

answer_of : (bytes : List ℕ) (o : Opened) (p : Place) → begun_at (start_of bytes) ≡ Ok (o, p)
    → listing_roots.refusal bytes ≡ judged (bad_behind hart_step o (scan_from o p)) true
answer_of bytes o p begun = refusal_behind (λ o s. true) bytes o p begun

pub roots_stop : (bytes text : List ℕ) (may cut : Type 0) (o : Opened) (p : Place) (base held : Option (List ℕ))
    (s : Status) → AreBytes bytes → begun_at (start_of bytes) ≡ Ok (o, p)
    → StopsTelling o (scan_from o p) text (end_of p) may cut base held s
    → Answers listing_roots bytes may cut (without_sink s)
roots_stop bytes text may cut o p base held (status.Format f) are begun stops = λ h.
    (answer_of bytes o p begun ∙ rw (stops h).0 refl)
roots_stop bytes text may cut o p base held (status.Broken n) are begun stops =
    answer_of bytes o p begun ∙ rw stops.0 refl
roots_stop bytes text may cut o p base held status.ReadFault are begun stops = λ h. elim (stops h).0 [
  | inl none ↦ rw (answer_of bytes o p begun, none) tt
  | inr end ↦ rw (answer_of bytes o p begun, end) (end_begun bytes o p are begun)
]
roots_stop bytes text may cut o p base held status.WriteFault are begun stops = tt
roots_stop bytes text may cut o p base held status.NoMemory are begun stops = tt
roots_stop bytes text may cut o p base held status.Done are begun stops = absurd stops
roots_stop bytes text may cut o p base held status.Usage are begun stops = absurd stops
roots_stop bytes text may cut o p base held status.NotThere are begun stops = absurd stops
roots_stop bytes text may cut o p base held status.WorldFault are begun stops = absurd stops
roots_stop bytes text may cut o p base held (status.NotBuilt n) are begun stops = absurd stops

pub refused_roots : (bytes : List ℕ) (may cut : Type 0) (e : LogFault)
    → MeetsIn (log_met e) (begun_at (start_of bytes)) (end_of (start_of bytes)) may cut
    → Answers listing_roots bytes may cut (status_of_log e)
refused_roots bytes may cut e meets =
    (refused_opening false (λ o s. true) roots_text no_text bytes may cut None e meets).0

pub roots_unread : (bytes : List ℕ) (may cut : Type 0) (base : Option (List ℕ)) (s : Status) → IsCountRefusal s
    → Leaves listing_roots bytes may cut s base base
roots_unread bytes may cut base (status.Format o) is = λ h. rw (nothing_settled bytes) (nothing_put base).written
roots_unread bytes may cut base (status.Broken n) is = rw (nothing_settled bytes) (nothing_put base).written
roots_unread bytes may cut base status.ReadFault is = λ h. rw (nothing_settled bytes) (nothing_put base).written
roots_unread bytes may cut base status.NotThere is = cc
roots_unread bytes may cut base status.NoMemory is = inl (no_front base _)
roots_unread bytes may cut base status.Done is = absurd is
roots_unread bytes may cut base status.WriteFault is = absurd is
roots_unread bytes may cut base status.Usage is = absurd is
roots_unread bytes may cut base status.WorldFault is = absurd is
roots_unread bytes may cut base (status.NotBuilt n) is = absurd is

-- ---- which answers these are

pub count_refused : (s : Status) → IsStreamRefusal false s → IsCountRefusal (without_sink s)
count_refused (status.Format o) is = tt
count_refused (status.Broken n) is = tt
count_refused status.ReadFault is = tt
count_refused status.WriteFault is = tt
count_refused status.NoMemory is = tt
count_refused status.NotThere is = is
count_refused status.Done is = is
count_refused status.Usage is = is
count_refused status.WorldFault is = is
count_refused (status.NotBuilt n) is = is

pub count_is_early : (s : Status) → IsStreamRefusal false s → Judges false (without_sink s) → ⊥
count_is_early (status.Format o) is j = j
count_is_early (status.Broken n) is j = j
count_is_early status.ReadFault is j = j
count_is_early status.WriteFault is j = j
count_is_early status.NoMemory is j = j
count_is_early status.NotThere is j = cc
count_is_early status.Done is j = is
count_is_early status.Usage is j = j
count_is_early status.WorldFault is j = is
count_is_early (status.NotBuilt n) is j = j

pub count_is_status : (s : Status) → IsCountRefusal s → IsStreamStatus false s
count_is_status (status.Format o) is = tt
count_is_status (status.Broken n) is = tt
count_is_status status.ReadFault is = tt
count_is_status status.WriteFault is = tt
count_is_status status.NoMemory is = tt
count_is_status status.NotThere is = is
count_is_status status.Done is = tt
count_is_status status.Usage is = is
count_is_status status.WorldFault is = is
count_is_status (status.NotBuilt n) is = is

pub count_cause : {X Y : Type 0} {before now : ℕ} (s : Status) → HasCause {T = X} status.ReadFault before now (Err s)
    → HasCause {T = Y} status.ReadFault before now (Err (without_sink s))
count_cause {X} {Y} {before} {now} s cause = record {
  later = cause.later;
  fits = cause.fits;
  failed = λ is. cause.failed (same s is);
}
  where
    same : (s : Status) → ◌≡◌ {A = Result Y Status} (Err (without_sink s)) (Err status.ReadFault)
        → ◌≡◌ {A = Result X Status} (Err s) (Err status.ReadFault)
    same status.ReadFault is = refl
    same status.WriteFault is = cc
    same (status.Format o) is = cc
    same (status.Broken n) is = cc
    same status.NoMemory is = cc
    same status.NotThere is = cc
    same status.Done is = cc
    same status.Usage is = cc
    same status.WorldFault is = cc
    same (status.NotBuilt n) is = cc

pub count_writes_nothing : (s : Status) (n : ℕ) → IsCountRefusal s → CausedBy status.WriteFault n n s
count_writes_nothing s n is = record {
  later = omega arith;
  fits = λ small. small;
  rose = λ same. absurd (subst IsCountRefusal same is);
}

-- ---- the lines

roots_good : (bytes : List ℕ) (roots : List (ℕ × Tally)) → HasRoots bytes roots → listing_roots.refusal bytes ≡ None
roots_good bytes roots has = answer_of bytes has.opened has.place has.begun ∙ rw has.good refl

roots_full : (bytes : List ℕ) (roots : List (ℕ × Tally)) → HasRoots bytes roots
    → listing_roots.full bytes ≡ root_lines roots
roots_full bytes roots has =
    text_behind roots_text bytes has.opened has.place has.begun ∙ ap root_lines (sym has.are)

pub roots_written : (bytes : List ℕ) (may cut : Type 0) (base held : Option (List ℕ)) (roots : List (ℕ × Tally))
    → (may → HasRoots bytes roots) → Appends base held (root_lines roots)
    → Does listing_roots bytes may cut base held (Ok (tt {0}))
roots_written bytes may cut base held roots has written = (
  λ h. roots_good bytes roots (has h),
  λ h. rw (roots_full bytes roots (has h)) written,
)

pub roots_unwritten : (bytes : List ℕ) (may cut : Type 0) (base held : Option (List ℕ)) (roots : List (ℕ × Tally))
    (e : OutFault) → (may → HasRoots bytes roots) → HasFront base (root_lines roots) held
    → Does listing_roots bytes may cut base held (Err (status_of_out e))
roots_unwritten bytes may cut base held roots e has front = by_fault e
  where
    all : may → (listing_roots.refusal bytes ≡ None) × HasFront base (listing_roots.full bytes) held
    all h = (roots_good bytes roots (has h), rw (roots_full bytes roots (has h)) front)

    by_fault : (f : OutFault) → Does listing_roots bytes may cut base held (Err (status_of_out f))
    by_fault write_fault = (λ early h. roots_good bytes roots (has h), inr all)
    by_fault no_room = (tt, inr all)
