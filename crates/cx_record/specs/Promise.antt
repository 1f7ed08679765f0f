-- What the recorder promises of the sink and of the world's answers.
use Rattle.std.specs.Prelude.{◌≡◌, ℕ, ◌+◌, ◌^◌, ◌<◌, ◌≤◌, Bool, true, false, IsTrue, List, ◌++◌, length, Option, None, Some, MatchOption}
use Rattle.std.specs.Prelude.{Result, Ok, Err}
use Rattle.std.specs.Io.KnownBytes.{Appends}
use Rattle.cx_codec.specs.Blocks.{HasFront, StandsFor, whole}
use Rattle.cx_io.specs.declared.outside.Outside.{Outside}
use Rattle.cx_live.specs.Image.{Image}
use Rattle.cx_live.specs.Live.{Live}
use Rattle.cx_live.specs.Recorded.{GoesOn, IsCut, IsRecorded, Runs, cut_text, whole_text}
use Rattle.cx_live.specs.Rules.{KeepsLive}
use Rattle.cx_live.specs.Run.{LiveRun, live_at_reset, live_run, reset_state}
use Rattle.cx_log.specs.Engine.{Writing}
use Rattle.cx_log.specs.Order.{at_start}
use Rattle.cx_log.specs.Text.{header_text, page_count, pages_text}
use Rattle.cx_log.specs.declared.header.Header.{Header}
use Rattle.cx_run.specs.Driven.{events_from}
use Rattle.cx_run.specs.SoFar.{behind_all}
use Rattle.cx_run.specs.Taping.{Ready}
use Rattle.cx_record.specs.declared.fault.RecordFault.{RecordFault}
use Rattle.cx_record.specs.declared.fault.RecordFault.TheVariants as fault

-- Answers go to the end of a list that is told; a list of fewer than 2^63 stays told, and one that isn't told isn't told
-- afterwards.
abbrev pub AddsAnswers : Option (List Outside) → Option (List Outside) → List Outside → Type 0
AddsAnswers None now outs = now ≡ None
AddsAnswers (Some given) now outs =
    MatchOption now (2 ^ 63 ≤ length given + length outs) (λ all. all ≡ given ++ outs)

-- The sink holds the recording of the live run over the answers that the world gave; it has end steps.
pub record IsDone (image : Image) (steps end : ℕ) (given now : Option (List Outside))
    (base held : Option (List ℕ)) : Type 0 where
  pub outs : List Outside
  pub run : LiveRun
  pub runs : Runs image steps outs run
  pub count : length outs ≡ end
  pub told : AddsAnswers given now outs
  pub recorded : IsRecorded image run
  pub written : Appends base held (whole_text image run)

-- The world failed: the sink has received the whole blocks of what was put of the run over the answers before.
pub record IsCutOff (image : Image) (steps : ℕ) (given now : Option (List Outside))
    (base held : Option (List ℕ)) : Type 0 where
  pub outs : List Outside
  pub run : LiveRun
  pub goes : GoesOn image outs run
  pub fewer : length outs < steps
  pub told : AddsAnswers given now outs
  pub cut : IsCut image run
  pub written : Appends base held (whole (cut_text image run))

-- Else it has received a front of the recording of each live run of at most so many answers that begin with those that
-- the world gave. There is one, which is accepted.
pub record IsShort (image : Image) (steps : ℕ) (given now : Option (List Outside)) (base held : Option (List ℕ)) : Type 0
  where
    pub outs : List Outside
    pub later : List Outside
    pub run : LiveRun
    pub is : live_run image (outs ++ later) ≡ Some run
    pub told : AddsAnswers given now outs
    pub most : length (outs ++ later) ≤ steps
    pub recorded : IsRecorded image run
    pub front : (others : List Outside) (more : LiveRun) → live_run image (outs ++ others) ≡ Some more
        → length (outs ++ others) ≤ steps → HasFront base (whole_text image more) held

abbrev pub Answers : Image → ℕ → Option (List Outside) → Option (List Outside) → Option (List ℕ) → Option (List ℕ)
    → Result ℕ RecordFault → Type 0
Answers image steps given now base held (Ok end) = IsDone image steps end given now base held
Answers image steps given now base held (Err fault.WorldFault) = IsCutOff image steps given now base held
Answers image steps given now base held (Err fault.WriteFault) = IsShort image steps given now base held
Answers image steps given now base held (Err fault.NoMemory) = IsShort image steps given now base held

-- ---- between two turns

-- what was put of the run over the answers so far, of which there are n, by a writer of the machine that the run left
pub record IsPut (image : Image) (n : ℕ) (given now : Option (List Outside)) (base held : Option (List ℕ))
    (w : Writing) (l : Live) : Type 0 where
  pub outs : List Outside
  pub run : LiveRun
  pub is : live_run image outs ≡ Some run
  pub each : length run.dues ≡ length outs
  pub count : length outs ≡ n
  pub live : run.live ≡ l
  pub told : AddsAnswers given now outs
  pub put : StandsFor base (cut_text image run) w.output.bytes held
  pub behind : w.behind ≡ behind_all (at_start 0 (live_at_reset image).machine.state) (events_from 0 run.dues)

-- the same before the n-th answer's step was put, whatever answers follow
pub record IsRefused (image : Image) (n : ℕ) (given now : Option (List Outside)) (base held : Option (List ℕ)) : Type 0
  where
    pub outs : List Outside
    pub later : List Outside
    pub run : LiveRun
    pub is : live_run image (outs ++ later) ≡ Some run
    pub told : AddsAnswers given now outs
    pub most : length (outs ++ later) ≤ n
    pub recorded : IsRecorded image run
    pub front : (others : List Outside) (more : LiveRun) → live_run image (outs ++ others) ≡ Some more
        → HasFront base (whole_text image more) held

-- what a turn answers after n of them
abbrev pub Turns : Image → ℕ → Option (List Outside) → Option (List Outside) → Option (List ℕ) → Option (List ℕ)
    → Writing → Live → Result Bool RecordFault → Type 0
Turns image n given now base held w l (Ok off) = IsPut image (n + 1) given now base held w l
Turns image n given now base held w l (Err fault.WorldFault) =
    IsPut image n given now base held w l × (l.devices.off ≡ false)
Turns image n given now base held w l (Err fault.WriteFault) = IsRefused image (n + 1) given now base held
Turns image n given now base held w l (Err fault.NoMemory) = IsRefused image (n + 1) given now base held

-- The writer may put the records of the next step, which is step n, and the machine keeps the rules.
pub record Stands (n : ℕ) (w : Writing) (l : Live) : Type 0 where
  pub output : IsTrue w.output.live
  pub none_owed : w.left ≡ 0
  pub ready : Ready n w.behind
  pub above : 0 < n → w.behind.step < n
  pub lines : w.behind.lines ≡ l.machine.state.lines
  pub keeps : KeepsLive w.header.pages l

-- what the turns up to the last answer, of at most so many
abbrev pub Plays : Image → ℕ → Option (List Outside) → Option (List Outside) → Option (List ℕ) → Option (List ℕ)
    → Writing → Live → Result ℕ RecordFault → Type 0
Plays image steps given now base held w l (Ok end) =
    IsPut image end given now base held w l × (end < steps → l.devices.off ≡ true)
Plays image steps given now base held w l (Err fault.WorldFault) = IsCutOff image steps given now base held
Plays image steps given now base held w l (Err fault.WriteFault) = IsShort image steps given now base held
Plays image steps given now base held w l (Err fault.NoMemory) = IsShort image steps given now base held

-- ---- what stands in front of the records

abbrev pub header_at_reset : Image → Header
header_at_reset image = record {
  version = image.version;
  split = image.split;
  pages = image.pages;
  base = 0;
  start = reset_state;
  count = page_count image.memory image.pages;
}

abbrev pub front_text : Image → List ℕ
front_text image = header_text (header_at_reset image) ++ pages_text image.memory image.pages
