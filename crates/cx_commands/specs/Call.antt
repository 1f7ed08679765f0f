-- What each command does, and what a call does for it.
use Rattle.std.specs.Prelude.{◌≡◌, ℕ, Bool, true, false, List, [], ◌++◌, drop, length, Option, None, Some}
use Rattle.cx_io.specs.declared.outside.Outside.{Outside}
use Rattle.cx_record.specs.Promise.{AddsAnswers}
use Rattle.cx_commands.specs.Calls.{calling}
use Rattle.cx_commands.specs.Doing.{Answers, Doing, IsUntouched, Judges, Leaves}
use Rattle.cx_commands.specs.Inspect.{inspecting}
use Rattle.cx_commands.specs.Make.{IsImageOf, IsWritingStatus, making}
use Rattle.cx_commands.specs.Record.{AsksSeed, AsksSteps, IsRecordStatus, IsSeededStatus, recording, seeded}
use Rattle.cx_commands.specs.Process.{slicing}
use Rattle.cx_commands.specs.Relog.{relogging}
use Rattle.cx_commands.specs.Replay.{replaying}
use Rattle.cx_commands.specs.Roots.{listing_roots}
use Rattle.cx_commands.specs.Streaming.{IsStreamStatus}
use Rattle.cx_commands.specs.Trace.{tracing}
use Rattle.cx_commands.specs.TraceRoot.{tracing_root}
use Rattle.cx_commands.specs.TraceWindow.{tracing_window}
use Rattle.cx_commands.specs.Upgrade.{upgrading}
use Rattle.cx_commands.specs.Window.{IsWindowStatus, windowed}
use Rattle.cx_commands.specs.declared.status.Status.{Status}
use Rattle.cx_commands.specs.declared.status.Status.TheVariants as status
use Rattle.cx_words.specs.declared.command.Command.{Command}
use Rattle.cx_words.specs.declared.command.Command.TheVariants.{Calls, Inspect, Make, Process, Record}
use Rattle.cx_words.specs.declared.command.Command.TheVariants.{RecordSeed, Relog, Replay, Roots, TraceAll}
use Rattle.cx_words.specs.declared.command.Command.TheVariants.{TraceRoot, TraceWindow, Upgrade, Window}
use Rattle.cx_words.specs.declared.question.Query.{Query}

-- The input of a call from the start of it, where the source gave these bytes before the call.
abbrev pub input_behind : List ℕ → List ℕ → List ℕ
input_behind given input = drop (length given) input

-- nothing is done but to answer this
abbrev pub answering : Status → Doing
answering answer = record {
  reads = false;
  streams = false;
  refusal = λ bytes. Some answer;
  full = λ bytes. [];
  settled = λ bytes. [];
  cut_off = λ bytes. [];
  refusal_so_far = λ bytes. Some answer;
  settled_so_far = λ bytes. [];
  lasts = λ bytes. true;
}

-- What a command rests on besides its own numbers and its input: the queries of `inspect`, the image of `make`, and the
-- answers that the world gives.
pub record Besides : Type 0 where
  pub queries : List Query
  pub image : List ℕ
  pub answers : List Outside

abbrev pub besides : List Query → List ℕ → List Outside → Besides
besides queries image answers = record { queries = queries; image = image; answers = answers }

-- what a command does, by what it rests on besides
abbrev pub doing_of : Option Command → Besides → Doing
doing_of None b = answering status.Usage
doing_of (Some (Window from to)) b = windowed from to
doing_of (Some (TraceWindow from to)) b = tracing_window from to
doing_of (Some (Process root)) b = slicing root
doing_of (Some (Calls root)) b = calling root
doing_of (Some Relog) b = relogging
doing_of (Some TraceAll) b = tracing
doing_of (Some (TraceRoot root)) b = tracing_root root
doing_of (Some Roots) b = listing_roots
doing_of (Some (Inspect count)) b = inspecting b.queries
doing_of (Some Replay) b = replaying
doing_of (Some Upgrade) b = upgrading
doing_of (Some (Record steps)) b = recording b.answers
doing_of (Some (RecordSeed steps seed)) b = seeded steps seed
doing_of (Some (Make n)) b = making b.image
doing_of (Some _) b = answering (status.NotBuilt 0)

-- the answers that it may have, whatever its source tells
abbrev pub MayAnswer : Option Command → Status → Type 0
MayAnswer None answer = answer ≡ status.Usage
MayAnswer (Some (Window a b)) answer = IsWindowStatus answer
MayAnswer (Some (TraceWindow a b)) answer = IsWindowStatus answer
MayAnswer (Some (Process root)) answer = IsStreamStatus true answer
MayAnswer (Some (Calls root)) answer = IsStreamStatus true answer
MayAnswer (Some Relog) answer = IsStreamStatus false answer
MayAnswer (Some TraceAll) answer = IsStreamStatus false answer
MayAnswer (Some (TraceRoot root)) answer = IsStreamStatus true answer
MayAnswer (Some Roots) answer = IsStreamStatus false answer
MayAnswer (Some (Inspect count)) answer = IsWindowStatus answer
MayAnswer (Some Replay) answer = IsStreamStatus false answer
MayAnswer (Some Upgrade) answer = IsStreamStatus false answer
MayAnswer (Some (Record steps)) answer = IsRecordStatus answer
MayAnswer (Some (RecordSeed steps seed)) answer = IsSeededStatus answer
MayAnswer (Some (Make n)) answer = IsWritingStatus answer
MayAnswer (Some _) answer = answer ≡ status.NotBuilt 0

-- what the world was asked, by a command that answers so
abbrev pub Asks : Option Command → List ℕ → List Outside → (whole : Type 0) → Status → Type 0
Asks (Some (Record steps)) bytes answers whole answer = AsksSteps steps bytes answers whole answer
Asks (Some (RecordSeed steps seed)) bytes answers whole answer =
    AsksSeed steps seed bytes whole answer × (answers ≡ [])
Asks _ bytes answers whole answer = answers ≡ []

-- Where the sink or memory gave out, what is written may go on with answers that weren't given yet.
abbrev pub MayFollow : Status → List Outside → Type 0
MayFollow status.WriteFault later = Unit {0}
MayFollow status.NoMemory later = Unit {0}
MayFollow _ later = later ≡ []

-- what the image that a command rests on is
abbrev pub RestsOn : Option Command → List ℕ → Status → Type 0
RestsOn (Some (Make n)) image answer = IsImageOf n image answer
RestsOn _ image answer = Unit {0}

-- What a call makes of an input, of which whole says that it may be so, as far as the source told its end, and cut that
-- it is what was given and no more. There are answers that the world gave in the call, and which it tells if it tells
-- any, and others that may follow; and an image, where the command makes one. Its own answer and the bytes in the sink
-- are those of the command with these and with its queries.
pub record Carries (command : Option Command) (queries : List Query) (bytes : List ℕ) (whole cut : Type 0)
    (asked asked_now : Option (List Outside)) (held held_now : Option (List ℕ)) (answer : Status) : Type 0 where
  pub image : List ℕ
  pub answers : List Outside
  pub later : List Outside
  pub rests : RestsOn command image answer
  pub adds : AddsAnswers asked asked_now answers
  pub follow : MayFollow answer later
  pub asks : Asks command bytes answers whole answer
  pub says : Answers (doing_of command (besides queries image answers)) bytes whole cut answer
  pub leaves : Leaves (doing_of command (besides queries image (answers ++ later))) bytes whole cut answer held
      held_now

-- the world stays as it is: only `record` without a seed asks it, behind the whole image
abbrev pub IsUnasked : Option Command → Status → Type 0
IsUnasked (Some (Record steps)) answer = IsUntouched false answer
IsUnasked _ answer = Unit {0}

-- Whether a command reads its source, and whether it writes before all of the input is judged, whatever it rests on
-- besides.
abbrev pub reads : Option Command → Bool
reads command = (doing_of command (besides [] [] [])).reads

abbrev pub streams : Option Command → Bool
streams command = (doing_of command (besides [] [] [])).streams

-- the answers that judge the whole input of a command that reads one
abbrev pub JudgesWhere : (reads streams : Bool) → Status → Type 0
JudgesWhere true streams answer = Judges streams answer
JudgesWhere false streams answer = ⊥

abbrev pub HasReadAll : Option Command → Status → Type 0
HasReadAll command answer = JudgesWhere (reads command) (streams command) answer
