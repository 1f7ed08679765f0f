-- What `record` makes of an image and of the world's answers.
use Rattle.std.specs.Prelude.{◌≡◌, ◌⊎◌, ℕ, ◌<◌, ◌≤◌, true, false, List, [], ◌∷◌, length, Option, None, Some}
use Rattle.std.specs.Prelude.{Result, Ok, Err}
use Rattle.std.specs.Option.{option_map}
use Rattle.cx_io.specs.SeedWorld.{Seeded, first_answers, told_answers}
use Rattle.cx_io.specs.declared.outside.Outside.{Outside}
use Rattle.cx_live.specs.Image.{Image}
use Rattle.cx_live.specs.Reading.{image_of}
use Rattle.cx_live.specs.Recorded.{GoesOn, IsCut, IsRecorded, Runs, cut_text, recording_of, whole_text}
use Rattle.cx_live.specs.Run.{LiveRun, live_run}
use Rattle.cx_record.specs.Promise.{IsCutOff, IsDone, IsShort}
use Rattle.cx_commands.specs.Doing.{Answers, Doing}
use Rattle.cx_commands.specs.Window.{IsTextOf}
use Rattle.cx_commands.specs.declared.status.Status.{Status}
use Rattle.cx_commands.specs.declared.status.Status.TheVariants as status

abbrev pub refusal_of_image : Result Image ℕ → Option Status
refusal_of_image (Ok image) = None
refusal_of_image (Err o) = Some (status.Format o)

abbrev pub text_of_run : (LiveRun → List ℕ) → Option LiveRun → List ℕ
text_of_run text None = []
text_of_run text (Some run) = text run

-- a text of the run of an image over these answers
abbrev pub text_over : (Image → LiveRun → List ℕ) → List Outside → Result Image ℕ → List ℕ
text_over text answers (Err o) = []
text_over text answers (Ok image) = text_of_run (text image) (live_run image answers)

-- `record` where the world gives these answers: nothing is written before the whole image was judged
abbrev pub recording : List Outside → Doing
recording answers = record {
  reads = true;
  streams = false;
  refusal = λ bytes. refusal_of_image (image_of bytes);
  full = λ bytes. text_over whole_text answers (image_of bytes);
  settled = λ bytes. [];
  cut_off = λ bytes. text_over cut_text answers (image_of bytes);
  refusal_so_far = λ bytes. refusal_of_image (image_of bytes);
  settled_so_far = λ bytes. [];
  lasts = λ bytes. true;
}

-- With a seed the answers are the seed's. More of them than the run takes change nothing.
abbrev pub seeded : ℕ → ℕ → Doing
seeded steps seed = recording (first_answers seed steps)

-- the answers that it may have
abbrev pub IsRecordStatus : Status → Type 0
IsRecordStatus status.Usage = ⊥
IsRecordStatus status.NotThere = ⊥
IsRecordStatus (status.Broken n) = ⊥
IsRecordStatus (status.NotBuilt n) = ⊥
IsRecordStatus _ = Unit {0}

-- a seed never fails
abbrev pub IsSeededStatus : Status → Type 0
IsSeededStatus status.WorldFault = ⊥
IsSeededStatus answer = IsRecordStatus answer

-- ---- what the world is asked

-- The input is an image with a run of at most so many steps over these answers, one a step, which has fewer only where
-- its last step turned the machine off. Its recording is accepted, and the run of that is this run.
pub record RunsToEnd (steps : ℕ) (bytes : List ℕ) (answers : List Outside) : Type 0 where
  pub image : Image
  pub run : LiveRun
  pub is : image_of bytes ≡ Ok image
  pub runs : Runs image steps answers run
  pub recorded : IsRecorded image run

-- The input is an image with a run of fewer steps over these answers, one a step, that may go on; what was put of it
-- begins the text of a recording that is accepted.
pub record RunsOn (steps : ℕ) (bytes : List ℕ) (answers : List Outside) : Type 0 where
  pub image : Image
  pub run : LiveRun
  pub is : image_of bytes ≡ Ok image
  pub goes : GoesOn image answers run
  pub fewer : length answers < steps
  pub cut : IsCut image run

-- what a call that ends so has asked the world
abbrev pub AsksSteps : ℕ → List ℕ → List Outside → (whole : Type 0) → Status → Type 0
AsksSteps steps bytes answers whole status.Done = whole → RunsToEnd steps bytes answers
AsksSteps steps bytes answers whole status.WorldFault = whole → RunsOn steps bytes answers
AsksSteps steps bytes answers whole status.WriteFault = length answers ≤ steps
AsksSteps steps bytes answers whole status.NoMemory = length answers ≤ steps
AsksSteps steps bytes answers whole _ = answers ≡ []

-- and the seed
abbrev pub AsksSeed : ℕ → ℕ → List ℕ → (whole : Type 0) → Status → Type 0
AsksSeed steps seed bytes whole status.Done = whole → (count : ℕ) × RunsToEnd steps bytes (first_answers seed count)
AsksSeed steps seed bytes whole _ = Unit {0}

-- ---- what such a recording is

-- What is written is the text of one recording, which begins with the image at reset and has a step for each answer. It
-- is accepted, nothing in it is bad, and its run is the run of the live machine over these answers, record by record.
pub record IsLiveRecording (steps : ℕ) (bytes : List ℕ) (answers : List Outside) (written : List ℕ) : Type 0 where
  pub image : Image
  pub run : LiveRun
  pub is : image_of bytes ≡ Ok image
  pub live : live_run image answers ≡ Some run
  pub text : IsTextOf (recording_of image run) written
  pub recorded : IsRecorded image run
  pub count : (recording_of image run).end ≡ length answers
  pub most : length answers ≤ steps

-- ---- the parts of a call

-- the image that an input is, or the answer to it
abbrev pub ReadsImage : List ℕ → (whole cut : Type 0) → Result Image Status → Type 0
ReadsImage bytes whole cut (Ok image) = whole → image_of bytes ≡ Ok image
ReadsImage bytes whole cut (Err answer) =
    (answers : List Outside) → Answers (recording answers) bytes whole cut answer

-- the answers that reading may end with
abbrev pub IsImageRefusal : Status → Type 0
IsImageRefusal (status.Format o) = Unit {0}
IsImageRefusal status.ReadFault = Unit {0}
IsImageRefusal status.NoMemory = Unit {0}
IsImageRefusal _ = ⊥

-- what recording an image leaves, by its answer
abbrev pub Recorded : Image → ℕ → Option (List Outside) → Option (List Outside) → Option (List ℕ) → Option (List ℕ)
    → Status → Type 0
Recorded image steps asked now base held status.Done = (end : ℕ) × IsDone image steps end asked now base held
Recorded image steps asked now base held status.WorldFault = IsCutOff image steps asked now base held
Recorded image steps asked now base held status.WriteFault = IsShort image steps asked now base held
Recorded image steps asked now base held status.NoMemory = IsShort image steps asked now base held
Recorded image steps asked now base held _ = ⊥

-- the image couldn't be read
pub record Refused (bytes : List ℕ) (whole cut : Type 0) (asked now : Option (List Outside))
    (base held : Option (List ℕ)) (answer : Status) : Type 0 where
  pub kind : IsImageRefusal answer
  pub says : (answers : List Outside) → Answers (recording answers) bytes whole cut answer
  pub unasked : now ≡ asked
  pub unwritten : held ≡ base

-- it was, and recorded
pub record Reached (steps : ℕ) (bytes : List ℕ) (whole : Type 0) (asked now : Option (List Outside))
    (base held : Option (List ℕ)) (answer : Status) : Type 0 where
  pub image : Image
  pub is : whole → image_of bytes ≡ Ok image
  pub recorded : Recorded image steps asked now base held answer

abbrev pub Records : ℕ → List ℕ → (whole cut : Type 0) → Option (List Outside) → Option (List Outside)
    → Option (List ℕ) → Option (List ℕ) → Status → Type 0
Records steps bytes whole cut asked now base held answer =
    Refused bytes whole cut asked now base held answer ⊎ Reached steps bytes whole asked now base held answer

-- ---- a world that tells its seed

-- the seed as an answer
abbrev pub seed_as_answer : ℕ → Outside
seed_as_answer seed = record { ticks = seed; console = false; block = false }

abbrev pub told_behind_seed : Seeded → Option (List Outside)
told_behind_seed w = option_map (λ all. seed_as_answer w.seed ∷ all) (told_answers w)
