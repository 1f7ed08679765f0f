-- What the parts of `inspect` say of it.
use Rattle.std.proofs.Common.{◌≡◌, ℕ, List, length, Bool, true, false, Option, None, Some, Ok, Err, refl, ap, sym}
use Rattle.std.proofs.Common.{◌∙◌, inl, inr}
use Rattle.std.specs.List.{list_all}
use Rattle.std.specs.Io.KnownBytes.{Appends}
use Rattle.cx_answer.specs.AnswerOf.{is_query_there}
use Rattle.cx_answer.specs.Lines.{answer_lines, are_there}
use Rattle.cx_codec.specs.Blocks.{HasFront}
use Rattle.cx_codec.specs.Place.{Place, end_of}
use Rattle.cx_codec.specs.Reads.{MeetsIn}
use Rattle.cx_codec.specs.declared.fault.OutFault.{OutFault}
use Rattle.cx_codec.specs.declared.fault.OutFault.TheVariants.{WriteFault as write_fault, NoMemory as no_room}
use Rattle.cx_codec.proofs.Putting.{nothing_put}
use Rattle.cx_hart.specs.HartStep.{hart_step}
use Rattle.cx_log.specs.Fault.{log_met}
use Rattle.cx_log.specs.Reading.{Opened, opened_at, start_of}
use Rattle.cx_log.specs.Recording.{Recording}
use Rattle.cx_log.specs.Scan.{Scan, decoded}
use Rattle.cx_log.specs.declared.fault.LogFault.{LogFault}
use Rattle.cx_map.specs.Bytes.{AreBytes}
use Rattle.cx_replay.specs.declared.fault.ReplayFault.{ReplayFault}
use Rattle.cx_replay.specs.declared.fault.ReplayFault.TheVariants as replay
use Rattle.cx_run.specs.FirstBad.{bad_behind, first_bad}
use Rattle.cx_seek.specs.Keeping.{StopsFor}
use Rattle.cx_seek.specs.Seeking.{IsOf, Seeking}
use Rattle.cx_words.specs.declared.question.Query.{Query}
use Rattle.cx_commands.specs.Doing.{Answers, Does, IsGoodSoFar, Leaves, judged}
use Rattle.cx_commands.specs.Faults.{status_of_log, status_of_out, status_of_replay}
use Rattle.cx_commands.specs.Inspect.{HasSeeker, answers_text, inspecting}
use Rattle.cx_commands.specs.Opening.{begun_at, scan_from}
use Rattle.cx_commands.specs.Streaming.{FinishesOn}
use Rattle.cx_commands.specs.Window.{IsReadRefusal, no_text}
use Rattle.cx_commands.specs.declared.status.Status.{Status}
use Rattle.cx_commands.specs.declared.status.Status.TheVariants as status
use Rattle.cx_commands.proofs.Answering.{good_so_far, nothing_settled}
use Rattle.cx_commands.proofs.Doings.{no_front, refusal_behind, refused_opening, text_behind}
use Rattle.cx_commands.proofs.Judging.{end_begun}

-- ---- the answer, by the first bad place behind header and pages

inspect_answer : (queries : List Query) (bytes : List ℕ) (o : Opened) (p : Place)
    → begun_at (start_of bytes) ≡ Ok (o, p)
    → (inspecting queries).refusal bytes
    ≡ judged (bad_behind hart_step o (scan_from o p)) (are_there (decoded o (scan_from o p)) queries)
inspect_answer queries bytes o p begun = refusal_behind (λ o s. are_there (decoded o s) queries) bytes o p begun

-- an input that is bad before its records
pub inspect_refused : (queries : List Query) (bytes : List ℕ) (may cut : Type 0) (e : LogFault)
    → MeetsIn (log_met e) (begun_at (start_of bytes)) (end_of (start_of bytes)) may cut
    → Answers (inspecting queries) bytes may cut (status_of_log e)
inspect_refused queries bytes may cut e meets =
    (refused_opening false (λ o s. are_there (decoded o s) queries) (answers_text queries) no_text bytes may cut None e
    meets).0

-- and one that is bad behind
pub inspect_stopped : (queries : List Query) (bytes : List ℕ) (may cut : Type 0) (o : Opened) (p : Place)
    (e : ReplayFault)
    → AreBytes bytes → begun_at (start_of bytes) ≡ Ok (o, p) → StopsFor o (scan_from o p) (end_of p) may cut e
    → Answers (inspecting queries) bytes may cut (status_of_replay e)
inspect_stopped queries bytes may cut o p (replay.Format f) are begun stops = λ h.
    (inspect_answer queries bytes o p begun ∙ rw (stops h) refl)
inspect_stopped queries bytes may cut o p (replay.Broken n) are begun stops =
    inspect_answer queries bytes o p begun ∙ rw stops refl
inspect_stopped queries bytes may cut o p replay.ReadFault are begun stops = λ h. elim (stops h) [
  | inl none ↦ rw (inspect_answer queries bytes o p begun, none)
      (good_so_far (length bytes) (are_there (decoded o (scan_from o p)) queries))
  | inr end ↦ rw (inspect_answer queries bytes o p begun, end) (end_begun bytes o p are begun)
]
inspect_stopped queries bytes may cut o p replay.NoMemory are begun stops = tt

pub inspect_unread : (queries : List Query) (bytes : List ℕ) (may cut : Type 0) (base : Option (List ℕ)) (s : Status)
    → IsReadRefusal s → Leaves (inspecting queries) bytes may cut s base base
inspect_unread queries bytes may cut base (status.Format o) is = λ h.
    rw (nothing_settled bytes) (nothing_put base).written
inspect_unread queries bytes may cut base (status.Broken n) is =
    rw (nothing_settled bytes) (nothing_put base).written
inspect_unread queries bytes may cut base status.ReadFault is = λ h.
    rw (nothing_settled bytes) (nothing_put base).written
inspect_unread queries bytes may cut base status.NotThere is = refl
inspect_unread queries bytes may cut base status.NoMemory is = inl (no_front base _)
inspect_unread queries bytes may cut base status.Done is = absurd is
inspect_unread queries bytes may cut base status.WriteFault is = absurd is
inspect_unread queries bytes may cut base status.Usage is = absurd is
inspect_unread queries bytes may cut base status.WorldFault is = absurd is
inspect_unread queries bytes may cut base (status.NotBuilt n) is = absurd is

-- ---- an input in which nothing is bad

-- the seeker tells whether the queries are there
there_alike : (queries : List Query) (R : Recording) (s : Seeking) → IsOf R s
    → list_all (is_query_there s.course.base s.course.end s.course.pages) queries ≡ are_there R queries
there_alike queries R s of =
    ap (λ (b : ℕ). list_all (is_query_there b s.course.end s.course.pages) queries) of.run.base
    ∙ ap (λ (e : ℕ). list_all (is_query_there R.base e s.course.pages) queries) of.run.end
    ∙ ap (λ (p : ℕ). list_all (is_query_there R.base R.end p) queries) of.run.pages

seeker_answer : (queries : List Query) (bytes : List ℕ) (s : Seeking) (there : Bool) → HasSeeker bytes s
    → there ≡ list_all (is_query_there s.course.base s.course.end s.course.pages) queries
    → (inspecting queries).refusal bytes ≡ judged None there
seeker_answer queries bytes s there has is =
    let R : Recording = decoded has.opened (scan_from has.opened has.place) in
    inspect_answer queries bytes has.opened has.place has.begun
    ∙ ap (λ b. judged b (are_there R queries)) has.opens.good
    ∙ ap (judged None) (sym (is ∙ there_alike queries R s has.opens.seeks))

pub inspect_lacks : (queries : List Query) (bytes : List ℕ) (s : Seeking) (there : Bool) → HasSeeker bytes s
    → there ≡ false → there ≡ list_all (is_query_there s.course.base s.course.end s.course.pages) queries
    → (inspecting queries).refusal bytes ≡ Some status.NotThere
inspect_lacks queries bytes s there has lacks is =
    seeker_answer queries bytes s there has is ∙ ap (judged None) lacks

inspect_good : (queries : List Query) (bytes : List ℕ) (s : Seeking) (there : Bool) → HasSeeker bytes s
    → there ≡ true → there ≡ list_all (is_query_there s.course.base s.course.end s.course.pages) queries
    → (inspecting queries).refusal bytes ≡ None
inspect_good queries bytes s there has all is =
    seeker_answer queries bytes s there has is ∙ ap (judged None) all

inspect_full : (queries : List Query) (bytes : List ℕ) (s : Seeking) → (has : HasSeeker bytes s)
    → (inspecting queries).full bytes ≡ answer_lines (decoded has.opened (scan_from has.opened has.place)) queries
inspect_full queries bytes s has = text_behind (answers_text queries) bytes has.opened has.place has.begun

pub inspect_written : (queries : List Query) (bytes : List ℕ) (may cut : Type 0) (base held : Option (List ℕ))
    (s : Seeking) (there : Bool) → there ≡ true
    → there ≡ list_all (is_query_there s.course.base s.course.end s.course.pages) queries
    → (may → HasSeeker bytes s) → ((R : Recording) → IsOf R s → Appends base held (answer_lines R queries))
    → Does (inspecting queries) bytes may cut base held (Ok (tt {0}))
inspect_written queries bytes may cut base held s there all is has written = (
  λ h. inspect_good queries bytes s there (has h) all is,
  λ h. rw (inspect_full queries bytes s (has h)) (written _ (has h).opens.seeks),
)

pub inspect_unwritten : (queries : List Query) (bytes : List ℕ) (may cut : Type 0) (base held : Option (List ℕ))
    (s : Seeking) (there : Bool) (e : OutFault) → there ≡ true
    → there ≡ list_all (is_query_there s.course.base s.course.end s.course.pages) queries
    → (may → HasSeeker bytes s) → ((R : Recording) → IsOf R s → HasFront base (answer_lines R queries) held)
    → Does (inspecting queries) bytes may cut base held (Err (status_of_out e))
inspect_unwritten queries bytes may cut base held s there e all is has front = by_fault e
  where
    good : may → (inspecting queries).refusal bytes ≡ None
    good h = inspect_good queries bytes s there (has h) all is

    left : may → ((inspecting queries).refusal bytes ≡ None) × HasFront base ((inspecting queries).full bytes) held
    left h = (good h, rw (inspect_full queries bytes s (has h)) (front _ (has h).opens.seeks))

    by_fault : (f : OutFault) → Does (inspecting queries) bytes may cut base held (Err (status_of_out f))
    by_fault write_fault = (λ early h. good h, inr left)
    by_fault no_room = (tt, inr left)
