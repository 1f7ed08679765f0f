-- What a command makes of its input, what its answers say of that, and what they leave in the sink.
use Rattle.std.specs.Prelude.{◌≡◌, ◌⊎◌, ℕ, ◌<◌, ◌≤◌, ◌^◌, Bool, true, false, List, [], length, Option, None, Some}
use Rattle.std.specs.Prelude.{Result, Ok, Err, unwrap_or}
use Rattle.std.specs.Io.KnownBytes.{Appends}
use Rattle.cx_codec.specs.Blocks.{HasFront, whole as whole_blocks}
use Rattle.cx_codec.specs.Place.{Place}
use Rattle.cx_hart.specs.HartStep.{hart_step}
use Rattle.cx_io.specs.Cause.{Rose}
use Rattle.cx_log.specs.Reading.{Opened, opened_at, start_of}
use Rattle.cx_log.specs.Scan.{Scan, scan_behind}
use Rattle.cx_replay.specs.Records.{GaveMore}
use Rattle.cx_run.specs.FirstBad.{Broken, Format, Refusal, first_bad}
use Rattle.cx_commands.specs.declared.status.Status.{Status}
use Rattle.cx_commands.specs.declared.status.Status.TheVariants as status

-- Whether it reads its source, and whether it writes before all of the input is judged. Of an input: the answer if it
-- is refused, and none if it isn't; what is written of it where all is done; of an input that is refused, the text of
-- what is settled in it; and of one that isn't, the text of what the world's answers have settled where the world
-- fails. And of what a source gave before it failed: the answer if that is refused, whatever follows, and the text of
-- what is settled in it. Last, whether what an input settles stays settled, whatever may still follow: it does, but that
-- the end of a slice settles steps only where nothing follows it.
pub record Doing : Type 0 where
  pub reads : Bool
  pub streams : Bool
  pub refusal : List ℕ → Option Status
  pub full : List ℕ → List ℕ
  pub settled : List ℕ → List ℕ
  pub cut_off : List ℕ → List ℕ
  pub refusal_so_far : List ℕ → Option Status
  pub settled_so_far : List ℕ → List ℕ
  pub lasts : List ℕ → Bool

-- ---- answers

-- nothing is bad in an input of so many bytes, but that it may end too soon
abbrev pub IsGoodSoFar : ℕ → Option Status → Type 0
IsGoodSoFar n None = Unit {0}
IsGoodSoFar n (Some status.NotThere) = Unit {0}
IsGoodSoFar n (Some (status.Format o)) = o ≡ n
IsGoodSoFar n (Some _) = ⊥

-- what is so of every input where what is settled lasts, and else of those that may be the whole one
abbrev pub Lasting : Bool → (whole claim : Type 0) → Type 0
Lasting true whole claim = claim
Lasting false whole claim = whole → claim

-- What an answer says of an input that begins with what the source gave: whole says that the input may be so, as far as
-- the source told its end, and cut that it is what was given and no more.
abbrev pub Answers : Doing → List ℕ → (whole cut : Type 0) → Status → Type 0
Answers d bytes whole cut status.Done = whole → d.refusal bytes ≡ None
Answers d bytes whole cut status.NotThere = whole → d.refusal bytes ≡ Some status.NotThere
Answers d bytes whole cut (status.Format o) = whole → d.refusal bytes ≡ Some (status.Format o)
Answers d bytes whole cut (status.Broken n) =
    Lasting (d.lasts bytes) whole (d.refusal bytes ≡ Some (status.Broken n))
Answers d bytes whole cut (status.NotBuilt n) = d.refusal bytes ≡ Some (status.NotBuilt n)
Answers d bytes whole cut status.Usage = d.refusal bytes ≡ Some status.Usage
Answers d bytes whole cut status.ReadFault = cut → IsGoodSoFar (length bytes) (d.refusal_so_far bytes)
Answers d bytes whole cut status.WriteFault = d.streams ≡ false → whole → d.refusal bytes ≡ None
Answers d bytes whole cut status.NoMemory = Unit {0}
Answers d bytes whole cut status.WorldFault = whole → d.refusal bytes ≡ None

-- ---- the sink

-- a front of what is settled, or of all where the input isn't refused
abbrev pub LeavesFront : Doing → List ℕ → (whole : Type 0) → Option (List ℕ) → Option (List ℕ) → Type 0
LeavesFront d bytes whole held now =
    HasFront held (d.settled bytes) now ⊎ (whole → (d.refusal bytes ≡ None) × HasFront held (d.full bytes) now)

-- Nothing was appended. Where nothing is written before the input is judged, that is said of every sink.
abbrev pub LeavesNothing : (streams : Bool) → Option (List ℕ) → Option (List ℕ) → Type 0
LeavesNothing false held now = now ≡ held
LeavesNothing true held now = Appends held now []

-- What a sink holds that held the first of the two lists: all on Done; the whole blocks of what is settled where the
-- input is bad or couldn't be read on, or where the world failed; a front where the sink or memory gave out; else what
-- it held.
abbrev pub Leaves : Doing → List ℕ → (whole cut : Type 0) → Status → Option (List ℕ) → Option (List ℕ) → Type 0
Leaves d bytes whole cut status.Done held now = whole → Appends held now (d.full bytes)
Leaves d bytes whole cut (status.Format o) held now = whole → Appends held now (whole_blocks (d.settled bytes))
Leaves d bytes whole cut (status.Broken n) held now =
    Lasting (d.lasts bytes) whole (Appends held now (whole_blocks (d.settled bytes)))
Leaves d bytes whole cut status.ReadFault held now = cut → Appends held now (whole_blocks (d.settled_so_far bytes))
Leaves d bytes whole cut status.WorldFault held now = whole → Appends held now (whole_blocks (d.cut_off bytes))
Leaves d bytes whole cut status.WriteFault held now =
    Lasting (d.lasts bytes) whole (LeavesFront d bytes whole held now)
Leaves d bytes whole cut status.NoMemory held now =
    Lasting (d.lasts bytes) whole (LeavesFront d bytes whole held now)
Leaves d bytes whole cut status.NotThere held now = LeavesNothing d.streams held now
Leaves d bytes whole cut _ held now = now ≡ held

-- the answers that come before anything is written, or for which nothing is
abbrev pub IsUntouched : (streams : Bool) → Status → Type 0
IsUntouched streams status.Done = ⊥
IsUntouched streams status.WriteFault = ⊥
IsUntouched streams status.WorldFault = ⊥
IsUntouched streams status.NoMemory = ⊥
IsUntouched streams (status.Format o) = streams ≡ false
IsUntouched streams (status.Broken n) = streams ≡ false
IsUntouched streams status.ReadFault = streams ≡ false
IsUntouched streams status.NotThere = streams ≡ false
IsUntouched streams _ = Unit {0}

-- the answer of a call, once it was refused or not
abbrev pub ended : Result (Unit {0}) Status → Status
ended (Ok u) = status.Done
ended (Err status) = status

-- what an answer says, and what it leaves
abbrev pub Does : Doing → List ℕ → (whole cut : Type 0) → Option (List ℕ) → Option (List ℕ) → Result (Unit {0}) Status
    → Type 0
Does d bytes whole cut held now result =
    Answers d bytes whole cut (ended result) × Leaves d bytes whole cut (ended result) held now

-- ---- the source

-- the answers that judge the whole input
abbrev pub Judges : (streams : Bool) → Status → Type 0
Judges streams status.Done = Unit {0}
Judges streams status.NotThere = Unit {0}
Judges streams status.WriteFault = streams ≡ false
Judges streams status.WorldFault = streams ≡ false
Judges streams _ = ⊥

-- What a call does to a source that tells what it has left: the bytes given and those left stay one input, of which it
-- gave more, and all where the whole of it was judged.
pub record Consumes (left : Option (List ℕ)) (given : List ℕ) (left_now : Option (List ℕ)) (given_now : List ℕ)
    (judged : Type 0) : Type 0 where
  pub gave : GaveMore left given left_now given_now
  pub all : judged → unwrap_or left_now [] ≡ []

-- ---- causes

-- A count of faults never falls, keeps to 64 bits, and rose where the answer is its fault.
pub record CausedBy (fault : Status) (before now : ℕ) (answer : Status) : Type 0 where
  pub later : before ≤ now
  pub fits : before < 2 ^ 64 → now < 2 ^ 64
  pub rose : answer ≡ fault → Rose before now

-- ---- commands that read a recording

abbrev pub status_of_refusal : Refusal → Status
status_of_refusal (Format o) = status.Format o
status_of_refusal (Broken n) = status.Broken n

-- a first bad place comes before what isn't there
abbrev pub judged : Option Refusal → Bool → Option Status
judged (Some bad) there = Some (status_of_refusal bad)
judged None true = None
judged None false = Some status.NotThere

abbrev pub there_in : (Opened → Scan → Bool) → Result (Opened × Place) ℕ → Bool
there_in there (Err o) = true
there_in there (Ok x) = there x.0 (scan_behind x.0 x.1)

-- whether what is asked for is there, in an input whose header and pages are good
unfoldable pub there_of : (Opened → Scan → Bool) → List ℕ → Bool
there_of there bytes = there_in there (opened_at (start_of bytes))

abbrev pub text_in : (Opened → Scan → List ℕ) → Result (Opened × Place) ℕ → List ℕ
text_in text (Err o) = []
text_in text (Ok x) = text x.0 (scan_behind x.0 x.1)

-- a text by the header, the memory and the records of an input; none where its header or its pages are bad
unfoldable pub text_of : (Opened → Scan → List ℕ) → List ℕ → List ℕ
text_of text bytes = text_in text (opened_at (start_of bytes))

-- Each is told by the header, the memory and the records of an input.
abbrev pub of_recording : (streams : Bool) → (there : Opened → Scan → Bool)
    → (full settled : Opened → Scan → List ℕ) → Doing
of_recording streams there full settled = record {
  reads = true;
  streams = streams;
  refusal = λ bytes. judged (first_bad hart_step bytes) (there_of there bytes);
  full = text_of full;
  settled = text_of settled;
  cut_off = λ bytes. [];
  refusal_so_far = λ bytes. judged (first_bad hart_step bytes) (there_of there bytes);
  settled_so_far = text_of settled;
  lasts = λ bytes. true;
}
