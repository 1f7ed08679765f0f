-- What `record` says and leaves, by what it read and by the answers that it was given.
use Rattle.std.proofs.Common.{◌≡◌, ℕ, ◌^◌, ◌≤◌, true, false, List, [], ◌∷◌, ◌++◌, length, Option, None, Some}
use Rattle.std.proofs.Common.{IsSome, Result, Ok, Err, IfErr, inl, inr, refl, sym, ap, subst, ◌∙◌, arith, length-append}
use Rattle.std.proofs.lemmas.List.{append-nil}
use Rattle.std.specs.Io.KnownBytes.{Appends}
use Rattle.cx_codec.specs.Blocks.{HasFront, whole as whole_blocks}
use Rattle.cx_codec.specs.Place.{Buffered, end_of}
use Rattle.cx_codec.specs.Reads.{over, place_in}
use Rattle.cx_codec.proofs.Putting.{nothing_put}
use Rattle.cx_hart.specs.HartStep.{hart_step}
use Rattle.cx_io.specs.Cause.{HasCause}
use Rattle.cx_io.specs.SeedWorld.{Seeded, first_answers}
use Rattle.cx_io.specs.declared.outside.Outside.{Outside}
use Rattle.cx_io.proofs.SeededAnswers.{length-first_answers}
use Rattle.cx_live.specs.Fault.{IsImageRead}
use Rattle.cx_live.specs.Image.{Image}
use Rattle.cx_live.specs.Reading.{image_of, image_or_bad, whole_image_at}
use Rattle.cx_live.specs.Recorded.{Runs, cut_text, recording_of, whole_text}
use Rattle.cx_live.specs.Run.{LiveRun, at_first, live_at_reset, live_run, turns}
use Rattle.cx_live.specs.declared.fault.ImageFault.{ImageFault}
use Rattle.cx_live.specs.declared.fault.ImageFault.TheVariants as image_fault
use Rattle.cx_live.proofs.LiveLoop.{turns_append, turns_stay_off}
use Rattle.cx_live.proofs.LiveRuns.{live_run_is_there}
use Rattle.cx_log.specs.Reading.{start_of}
use Rattle.cx_log.specs.Recording.{Recording}
use Rattle.cx_log.specs.Text.{recording_text}
use Rattle.cx_run.specs.FirstBad.{first_bad}
use Rattle.cx_run.proofs.GoodInputs.{text_is_good}
use Rattle.cx_record.specs.Promise.{AddsAnswers, Answers as RecordAnswers, IsShort}
use Rattle.cx_record.specs.declared.fault.RecordFault.{RecordFault}
use Rattle.cx_record.specs.declared.fault.RecordFault.TheVariants as recorder
use Rattle.cx_commands.specs.Call.{Carries, input_behind}
use Rattle.cx_commands.specs.Doing.{Answers, CausedBy, IsGoodSoFar, IsUntouched, Judges, Leaves, LeavesFront}
use Rattle.cx_commands.specs.Faults.{status_of_image, status_of_record}
use Rattle.cx_commands.specs.Record.{AsksSeed, AsksSteps, IsImageRefusal, IsLiveRecording, IsRecordStatus, IsSeededStatus}
use Rattle.cx_commands.specs.Record.{Recorded}
use Rattle.cx_commands.specs.Record.{Records, Refused, RunsToEnd, recording, refusal_of_image, seed_as_answer, seeded}
use Rattle.cx_commands.specs.Record.{text_of_run, text_over, told_behind_seed}
use Rattle.cx_commands.specs.declared.status.Status.{Status}
use Rattle.cx_commands.specs.declared.status.Status.TheVariants as status
use Rattle.cx_commands.proofs.Carrying.{adds_none, none_follows}
use Rattle.cx_commands.proofs.Doings.{no_front}
use Rattle.cx_commands.proofs.Seeding.{first_begin, told_first, told_of_seed}
use Rattle.cx_words.specs.declared.command.Command.TheVariants.{Record}
use Rattle.cx_words.specs.declared.question.Query.{Query}

-- ---- reading

good_so_far : (size end : ℕ) (read : Result Image ℕ) → end ≡ size → IfErr read (λ o. o ≡ end)
    → IsGoodSoFar size (refusal_of_image read)
good_so_far size end (Ok image) same bad = tt
good_so_far size end (Err o) same bad = bad ∙ same

pub read_refused : (bytes : List ℕ) (whole cut : Type 0) (e : ImageFault)
    → IsImageRead (image_of bytes) (end_of (start_of bytes)) whole cut (Err e) → (answers : List Outside)
    → Answers (recording answers) bytes whole cut (status_of_image e)
read_refused bytes whole cut (image_fault.Format o) meets answers = λ h. ap refusal_of_image (meets h)
read_refused bytes whole cut image_fault.ReadFault meets answers = λ h.
    (let all : end_of (start_of bytes) ≡ length bytes = omega arith in
    good_so_far (length bytes) (end_of (start_of bytes)) (image_of bytes) all (meets h))
read_refused bytes whole cut image_fault.NoMemory meets answers = tt

-- The same of a reader at the first byte.
pub first_refused : (b : Buffered) (left : Option (List ℕ)) (given input : List ℕ) (whole cut : Type 0) (e : ImageFault)
    → b ≡ record { ready = []; at = 0; limit = 2 ^ 60; live = true }
    → IsImageRead (image_or_bad (whole_image_at (place_in (over b left given) input)))
    (end_of (place_in (over b left given) input)) whole cut (Err e)
    → (answers : List Outside) → Answers (recording answers) (input_behind given input) whole cut (status_of_image e)
first_refused b left given input whole cut e is meets = read_refused (input_behind given input) whole cut e
    (subst (λ (x : Buffered). IsImageRead (image_or_bad (whole_image_at (place_in (over x left given) input)))
    (end_of (place_in (over x left given) input)) whole cut (Err e)) is meets)

pub image_fault_is_early : (e : ImageFault) → Judges false (status_of_image e) → ⊥
image_fault_is_early (image_fault.Format o) j = j
image_fault_is_early image_fault.ReadFault j = j
image_fault_is_early image_fault.NoMemory j = j

-- ---- the recorder's answers

pub recorded_fault : (image : Image) (steps : ℕ) (asked now : Option (List Outside)) (base held : Option (List ℕ))
    (e : RecordFault) → RecordAnswers image steps asked now base held (Err e)
    → Recorded image steps asked now base held (status_of_record e)
recorded_fault image steps asked now base held recorder.WorldFault answers = answers
recorded_fault image steps asked now base held recorder.WriteFault answers = answers
recorded_fault image steps asked now base held recorder.NoMemory answers = answers

pub sink_cause : (before now : ℕ) (e : RecordFault) → HasCause {T = ℕ} recorder.WriteFault before now (Err e)
    → CausedBy status.WriteFault before now (status_of_record e)
sink_cause before now recorder.WriteFault cause = record {
  later = cause.later;
  fits = cause.fits;
  rose = λ is. cause.failed refl;
}
sink_cause before now recorder.WorldFault cause = record { later = cause.later; fits = cause.fits; rose = λ is. absurd cc }
sink_cause before now recorder.NoMemory cause = record { later = cause.later; fits = cause.fits; rose = λ is. absurd cc }

pub world_cause : (before now : ℕ) (e : RecordFault) → HasCause {T = ℕ} recorder.WorldFault before now (Err e)
    → CausedBy status.WorldFault before now (status_of_record e)
world_cause before now recorder.WorldFault cause = record {
  later = cause.later;
  fits = cause.fits;
  rose = λ is. cause.failed refl;
}
world_cause before now recorder.WriteFault cause = record { later = cause.later; fits = cause.fits; rose = λ is. absurd cc }
world_cause before now recorder.NoMemory cause = record { later = cause.later; fits = cause.fits; rose = λ is. absurd cc }

pub recorded_kind : (image : Image) (steps : ℕ) (asked now : Option (List Outside)) (base held : Option (List ℕ))
    (answer : Status) → Recorded image steps asked now base held answer
    → IsRecordStatus answer × (IsUntouched false answer → ⊥)
recorded_kind image steps asked now base held status.Done is = (tt, λ u. u)
recorded_kind image steps asked now base held status.WorldFault is = (tt, λ u. u)
recorded_kind image steps asked now base held status.WriteFault is = (tt, λ u. u)
recorded_kind image steps asked now base held status.NoMemory is = (tt, λ u. u)
recorded_kind image steps asked now base held status.Usage is = absurd is
recorded_kind image steps asked now base held (status.Format o) is = absurd is
recorded_kind image steps asked now base held (status.Broken n) is = absurd is
recorded_kind image steps asked now base held status.NotThere is = absurd is
recorded_kind image steps asked now base held status.ReadFault is = absurd is
recorded_kind image steps asked now base held (status.NotBuilt n) is = absurd is

pub refusal_kind : (answer : Status) → IsImageRefusal answer → IsRecordStatus answer
refusal_kind (status.Format o) is = tt
refusal_kind status.ReadFault is = tt
refusal_kind status.NoMemory is = tt
refusal_kind status.Done is = absurd is
refusal_kind status.WorldFault is = absurd is
refusal_kind status.WriteFault is = absurd is
refusal_kind status.Usage is = absurd is
refusal_kind (status.Broken n) is = absurd is
refusal_kind status.NotThere is = absurd is
refusal_kind (status.NotBuilt n) is = absurd is

-- ---- an image that couldn't be read

nothing_left : (answers : List Outside) (bytes : List ℕ) (whole cut : Type 0) (base : Option (List ℕ)) (answer : Status)
    → IsImageRefusal answer → Leaves (recording answers) bytes whole cut answer base base
nothing_left answers bytes whole cut base (status.Format o) is = λ h. (nothing_put base).written
nothing_left answers bytes whole cut base status.ReadFault is = λ h. (nothing_put base).written
nothing_left answers bytes whole cut base status.NoMemory is = inl (no_front base [])
nothing_left answers bytes whole cut base status.Done is = absurd is
nothing_left answers bytes whole cut base status.WorldFault is = absurd is
nothing_left answers bytes whole cut base status.WriteFault is = absurd is
nothing_left answers bytes whole cut base status.Usage is = absurd is
nothing_left answers bytes whole cut base (status.Broken n) is = absurd is
nothing_left answers bytes whole cut base status.NotThere is = absurd is
nothing_left answers bytes whole cut base (status.NotBuilt n) is = absurd is

refused_leaves : (answers : List Outside) (bytes : List ℕ) (whole cut : Type 0) (asked now : Option (List Outside))
    (base held : Option (List ℕ)) (answer : Status) → Refused bytes whole cut asked now base held answer
    → Leaves (recording answers) bytes whole cut answer base held
refused_leaves answers bytes whole cut asked now base held answer refused =
    subst (λ (h : Option (List ℕ)). Leaves (recording answers) bytes whole cut answer base h) (sym refused.unwritten)
    (nothing_left answers bytes whole cut base answer refused.kind)

refused_asks : (steps : ℕ) (bytes : List ℕ) (whole : Type 0) (answer : Status) → IsImageRefusal answer
    → AsksSteps steps bytes [] whole answer
refused_asks steps bytes whole (status.Format o) is = refl
refused_asks steps bytes whole status.ReadFault is = refl
refused_asks steps bytes whole status.NoMemory is = omega arith
refused_asks steps bytes whole status.Done is = absurd is
refused_asks steps bytes whole status.WorldFault is = absurd is
refused_asks steps bytes whole status.WriteFault is = absurd is
refused_asks steps bytes whole status.Usage is = absurd is
refused_asks steps bytes whole (status.Broken n) is = absurd is
refused_asks steps bytes whole status.NotThere is = absurd is
refused_asks steps bytes whole (status.NotBuilt n) is = absurd is

-- ---- an image that was recorded

text_is : (text : Image → LiveRun → List ℕ) (answers : List Outside) (bytes : List ℕ) (image : Image) (run : LiveRun)
    → image_of bytes ≡ Ok image → live_run image answers ≡ Some run
    → text_over text answers (image_of bytes) ≡ text image run
text_is text answers bytes image run is runs = ap (text_over text answers) is ∙ ap (text_of_run (text image)) runs

-- the sink has a front of the recording over these answers
front_left : (answers : List Outside) (bytes : List ℕ) (whole : Type 0) (base held : Option (List ℕ)) (image : Image)
    (run : LiveRun) → (whole → image_of bytes ≡ Ok image) → live_run image answers ≡ Some run
    → HasFront base (whole_text image run) held → LeavesFront (recording answers) bytes whole base held
front_left answers bytes whole base held image run is runs front = inr (λ h. (
  ap refusal_of_image (is h),
  subst (λ (text : List ℕ). HasFront base text held) (sym (text_is whole_text answers bytes image run (is h) runs)) front,
))

short_few : (image : Image) (steps : ℕ) (asked now : Option (List Outside)) (base held : Option (List ℕ))
    → (s : IsShort image steps asked now base held) → length s.outs ≤ steps
short_few image steps asked now base held s = omega (arith, s.most, length-append s.outs s.later)

reached_carries : (steps : ℕ) (queries : List Query) (bytes : List ℕ) (whole cut : Type 0)
    (asked now : Option (List Outside)) (base held : Option (List ℕ)) (answer : Status) (image : Image)
    → (whole → image_of bytes ≡ Ok image) → Recorded image steps asked now base held answer
    → Carries (Some (Record steps)) queries bytes whole cut asked now base held answer
reached_carries steps queries bytes whole cut asked now base held status.Done image is done =
    let d = done.1 in
    let runs : live_run image (d.outs ++ []) ≡ Some d.run = ap (live_run image) (append-nil d.outs) ∙ d.runs.is in
    record {
      image = [];
      answers = d.outs;
      later = [];
      rests = tt;
      adds = d.told;
      follow = refl;
      asks = λ h. record { image = image; run = d.run; is = is h; runs = d.runs; recorded = d.recorded };
      says = λ h. ap refusal_of_image (is h);
      leaves = λ h.
          subst (λ (text : List ℕ). Appends base held text)
          (sym (text_is whole_text (d.outs ++ []) bytes image d.run (is h) runs)) d.written;
    }
reached_carries steps queries bytes whole cut asked now base held status.WorldFault image is d =
    let runs : live_run image (d.outs ++ []) ≡ Some d.run = ap (live_run image) (append-nil d.outs) ∙ d.goes.is in
    record {
      image = [];
      answers = d.outs;
      later = [];
      rests = tt;
      adds = d.told;
      follow = refl;
      asks = λ h. record { image = image; run = d.run; is = is h; goes = d.goes; fewer = d.fewer; cut = d.cut };
      says = λ h. ap refusal_of_image (is h);
      leaves = λ h.
          subst (λ (text : List ℕ). Appends base held (whole_blocks text))
          (sym (text_is cut_text (d.outs ++ []) bytes image d.run (is h) runs)) d.written;
    }
reached_carries steps queries bytes whole cut asked now base held status.WriteFault image is s = record {
  image = [];
  answers = s.outs;
  later = s.later;
  rests = tt;
  adds = s.told;
  follow = tt;
  asks = short_few image steps asked now base held s;
  says = λ early h. ap refusal_of_image (is h);
  leaves = front_left (s.outs ++ s.later) bytes whole base held image s.run is s.is (s.front s.later s.run s.is s.most);
}
reached_carries steps queries bytes whole cut asked now base held status.NoMemory image is s = record {
  image = [];
  answers = s.outs;
  later = s.later;
  rests = tt;
  adds = s.told;
  follow = tt;
  asks = short_few image steps asked now base held s;
  says = tt;
  leaves = front_left (s.outs ++ s.later) bytes whole base held image s.run is s.is (s.front s.later s.run s.is s.most);
}
reached_carries steps queries bytes whole cut asked now base held status.Usage image is wrong = absurd wrong
reached_carries steps queries bytes whole cut asked now base held (status.Format o) image is wrong = absurd wrong
reached_carries steps queries bytes whole cut asked now base held (status.Broken n) image is wrong = absurd wrong
reached_carries steps queries bytes whole cut asked now base held status.NotThere image is wrong = absurd wrong
reached_carries steps queries bytes whole cut asked now base held status.ReadFault image is wrong = absurd wrong
reached_carries steps queries bytes whole cut asked now base held (status.NotBuilt n) image is wrong = absurd wrong

pub carries_steps : (steps : ℕ) (queries : List Query) (bytes : List ℕ) (whole cut : Type 0)
    (asked now : Option (List Outside)) (base held : Option (List ℕ)) (answer : Status)
    → Records steps bytes whole cut asked now base held answer
    → Carries (Some (Record steps)) queries bytes whole cut asked now base held answer
carries_steps steps queries bytes whole cut asked now base held answer records = elim records [
  | inl refused ↦ record {
    image = [];
    answers = [];
    later = [];
    rests = tt;
    adds = subst (λ (n : Option (List Outside)). AddsAnswers asked n []) (sym refused.unasked) (adds_none asked);
    follow = none_follows answer;
    asks = refused_asks steps bytes whole answer refused.kind;
    says = refused.says [];
    leaves = refused_leaves [] bytes whole cut asked now base held answer refused;
  }
  | inr reached ↦
      reached_carries steps queries bytes whole cut asked now base held answer reached.image reached.is reached.recorded
]

-- ---- a seed

-- more answers than the run takes change nothing
more_change_nothing : (image : Image) (steps : ℕ) (outs more : List Outside) (run : LiveRun) → Runs image steps outs run
    → length (outs ++ more) ≤ steps → live_run image (outs ++ more) ≡ Some run
more_change_nothing image steps outs [] run runs within = ap (live_run image) (append-nil outs) ∙ runs.is
more_change_nothing image steps outs (o ∷ more) run runs within =
    turns_append image.split (Some (at_first (live_at_reset image))) outs (o ∷ more)
    ∙ ap (λ (r : Option LiveRun). turns image.split r (o ∷ more)) runs.is
    ∙ turns_stay_off image.split run (o ∷ more) (runs.early (omega (arith, within, length-append outs (o ∷ more))))

abbrev Seeds : ℕ → ℕ → List ℕ → (whole cut : Type 0) → Option (List ℕ) → Option (List ℕ) → Status → Type 0
Seeds steps seed bytes whole cut base held answer =
    Answers (seeded steps seed) bytes whole cut answer
    × (Leaves (seeded steps seed) bytes whole cut answer base held × AsksSeed steps seed bytes whole answer)

refused_seeds : (steps seed : ℕ) (bytes : List ℕ) (whole : Type 0) (answer : Status) → IsImageRefusal answer
    → AsksSeed steps seed bytes whole answer
refused_seeds steps seed bytes whole (status.Format o) is = tt
refused_seeds steps seed bytes whole status.ReadFault is = tt
refused_seeds steps seed bytes whole status.NoMemory is = tt
refused_seeds steps seed bytes whole status.Done is = absurd is
refused_seeds steps seed bytes whole status.WorldFault is = absurd is
refused_seeds steps seed bytes whole status.WriteFault is = absurd is
refused_seeds steps seed bytes whole status.Usage is = absurd is
refused_seeds steps seed bytes whole (status.Broken n) is = absurd is
refused_seeds steps seed bytes whole status.NotThere is = absurd is
refused_seeds steps seed bytes whole (status.NotBuilt n) is = absurd is

-- the answers that were given begin those of the seed
record Begun (steps seed : ℕ) (outs : List Outside) : Type 0 where
  more : List Outside
  all : first_answers seed steps ≡ outs ++ more
  within : length (outs ++ more) ≤ steps

begun_by : (steps seed : ℕ) (w : Seeded) (outs : List Outside)
    → AddsAnswers (Some (seed_as_answer seed ∷ [])) (told_behind_seed w) outs → steps ≤ 2 ^ 27 → length outs ≤ steps
    → Begun steps seed outs
begun_by steps seed w outs adds few within =
    let are = told_of_seed seed w outs adds (omega (arith, few, within)) in
    let begun = first_begin seed (length outs) steps within in
    let all : first_answers seed steps ≡ outs ++ begun.0 =
    begun.1 ∙ ap (λ (xs : List Outside). xs ++ begun.0) (sym are) in
    record {
      more = begun.0;
      all = all;
      within =
          (let size : length (first_answers seed steps) ≡ length (outs ++ begun.0) =
          ap (λ (xs : List Outside). length xs) all in
          omega (arith, size, length-first_answers seed steps));
    }

-- a front of every run that begins with the answers is a front of the seed's
seed_front : (steps seed : ℕ) (bytes : List ℕ) (whole : Type 0) (base held : Option (List ℕ)) (image : Image)
    (asked now : Option (List Outside)) → (whole → image_of bytes ≡ Ok image)
    → (s : IsShort image steps asked now base held) → Begun steps seed s.outs
    → LeavesFront (seeded steps seed) bytes whole base held
seed_front steps seed bytes whole base held image asked now is s begun =
    by (live_run image (first_answers seed steps)) refl (live_run_is_there image (first_answers seed steps))
  where
    by : (run : Option LiveRun) → live_run image (first_answers seed steps) ≡ run → IsSome run
        → LeavesFront (seeded steps seed) bytes whole base held
    by None there some = absurd cc
    by (Some run) there some =
        front_left (first_answers seed steps) bytes whole base held image run is there
        (s.front begun.more run (ap (live_run image) (sym begun.all) ∙ there) begun.within)

reached_seeds : (steps seed : ℕ) (bytes : List ℕ) (whole cut : Type 0) (w : Seeded) (base held : Option (List ℕ))
    (answer : Status) (image : Image) → steps ≤ 2 ^ 27 → (answer ≡ status.WorldFault → ⊥)
    → (whole → image_of bytes ≡ Ok image)
    → Recorded image steps (Some (seed_as_answer seed ∷ [])) (told_behind_seed w) base held answer
    → Seeds steps seed bytes whole cut base held answer
reached_seeds steps seed bytes whole cut w base held status.Done image few never is done =
    let d = done.1 in
    let begun = begun_by steps seed w d.outs d.told few d.runs.most in
    let are = told_of_seed seed w d.outs d.told (omega (arith, few, d.runs.most)) in
    let runs : live_run image (first_answers seed steps) ≡ Some d.run =
    ap (live_run image) begun.all ∙ more_change_nothing image steps d.outs begun.more d.run d.runs begun.within in (
      λ h. ap refusal_of_image (is h),
      (
        λ h.
            subst (λ (text : List ℕ). Appends base held text)
            (sym (text_is whole_text (first_answers seed steps) bytes image d.run (is h) runs)) d.written,
        λ h. (
          length d.outs,
          subst (RunsToEnd steps bytes) are
              (record { image = image; run = d.run; is = is h; runs = d.runs; recorded = d.recorded }),
        ),
      ),
    )
reached_seeds steps seed bytes whole cut w base held status.WriteFault image few never is s = (
  λ early h. ap refusal_of_image (is h),
  (
    seed_front steps seed bytes whole base held image _ _ is s
        (begun_by steps seed w s.outs s.told few (short_few image steps _ _ base held s)),
    tt,
  ),
)
reached_seeds steps seed bytes whole cut w base held status.NoMemory image few never is s = (
  tt,
  (
    seed_front steps seed bytes whole base held image _ _ is s
        (begun_by steps seed w s.outs s.told few (short_few image steps _ _ base held s)),
    tt,
  ),
)
reached_seeds steps seed bytes whole cut w base held status.WorldFault image few never is d = absurd (never refl)
reached_seeds steps seed bytes whole cut w base held status.Usage image few never is wrong = absurd wrong
reached_seeds steps seed bytes whole cut w base held (status.Format o) image few never is wrong = absurd wrong
reached_seeds steps seed bytes whole cut w base held (status.Broken n) image few never is wrong = absurd wrong
reached_seeds steps seed bytes whole cut w base held status.NotThere image few never is wrong = absurd wrong
reached_seeds steps seed bytes whole cut w base held status.ReadFault image few never is wrong = absurd wrong
reached_seeds steps seed bytes whole cut w base held (status.NotBuilt n) image few never is wrong = absurd wrong

told_seeds : (steps seed : ℕ) (bytes : List ℕ) (whole cut : Type 0) (w : Seeded) (base held : Option (List ℕ))
    (answer : Status) → steps ≤ 2 ^ 27 → (answer ≡ status.WorldFault → ⊥)
    → Records steps bytes whole cut (Some (seed_as_answer seed ∷ [])) (told_behind_seed w) base held answer
    → Seeds steps seed bytes whole cut base held answer
told_seeds steps seed bytes whole cut w base held answer few never records = elim records [
  | inl refused ↦ (
    refused.says (first_answers seed steps),
    (
      refused_leaves (first_answers seed steps) bytes whole cut _ _ base held answer refused,
      refused_seeds steps seed bytes whole answer refused.kind,
    ),
  )
  | inr reached ↦
      reached_seeds steps seed bytes whole cut w base held answer reached.image few never reached.is reached.recorded
]

pub seeds : (steps seed : ℕ) (bytes : List ℕ) (whole cut : Type 0) (first w : Seeded) (base held : Option (List ℕ))
    (answer : Status) → steps ≤ 2 ^ 27 → (answer ≡ status.WorldFault → ⊥) → first ≡ record { seed = seed; calls = 0 }
    → Records steps bytes whole cut (told_behind_seed first) (told_behind_seed w) base held answer
    → Seeds steps seed bytes whole cut base held answer
seeds steps seed bytes whole cut first w base held answer few never is records =
    told_seeds steps seed bytes whole cut w base held answer few never
    (subst (λ (a : Option (List Outside)). Records steps bytes whole cut a (told_behind_seed w) base held answer)
    (ap told_behind_seed is ∙ told_first seed) records)

-- A world that never fails is no cause of a fault.
pub never_world : (answer : Status) → CausedBy status.WorldFault 0 0 answer → answer ≡ status.WorldFault → ⊥
never_world answer cause is = let rose = cause.rose is in omega (arith, rose)

pub seeded_kind : (answer : Status) → IsRecordStatus answer → (answer ≡ status.WorldFault → ⊥) → IsSeededStatus answer
seeded_kind status.WorldFault kind never = never refl
seeded_kind status.Done kind never = tt
seeded_kind (status.Format o) kind never = tt
seeded_kind status.ReadFault kind never = tt
seeded_kind status.WriteFault kind never = tt
seeded_kind status.NoMemory kind never = tt
seeded_kind status.Usage kind never = kind
seeded_kind (status.Broken n) kind never = kind
seeded_kind status.NotThere kind never = kind
seeded_kind (status.NotBuilt n) kind never = kind

-- ---- what is written

pub is_live_recording : (steps : ℕ) (bytes : List ℕ) (answers : List Outside) → RunsToEnd steps bytes answers
    → IsLiveRecording steps bytes answers ((recording answers).full bytes)
is_live_recording steps bytes answers ends =
    let R : Recording = recording_of ends.image ends.run in
    let text : (recording answers).full bytes ≡ recording_text R =
    text_is whole_text answers bytes ends.image ends.run ends.is ends.runs.is in
    record {
      image = ends.image;
      run = ends.run;
      is = ends.is;
      live = ends.runs.is;
      text = record {
        text = text;
        accepted = ends.recorded.accepted;
        good = ap (first_bad hart_step) text ∙ text_is_good hart_step R ends.recorded.accepted;
      };
      recorded = ends.recorded;
      count = ends.runs.each;
      most = ends.runs.most;
    }
