-- What `window` does: the recording of the window that its input has.
use Rattle.std.specs.Prelude.{◌≡◌, ℕ, ◌-◌, false, List, [], take, drop, Option, None, Some, IsSomeAnd, Result, Ok, Err}
use Rattle.std.specs.Io.KnownBytes.{Appends}
use Rattle.cx_hart.specs.HartStep.{hart_step}
use Rattle.cx_hart.specs.Reads.{read_indices}
use Rattle.cx_hart.specs.declared.record.StepRec.{StepRec}
use Rattle.cx_codec.specs.Place.{Place}
use Rattle.cx_log.specs.Reading.{Opened, start_of}
use Rattle.cx_log.specs.Recording.{Recording}
use Rattle.cx_log.specs.Scan.{Scan, decoded}
use Rattle.cx_log.specs.Text.{recording_text}
use Rattle.cx_run.specs.FirstBad.{first_bad}
use Rattle.cx_run.specs.Run.{Accepts, Run, run_of}
use Rattle.cx_run.specs.Window.{IsWindow, has_window, window_from}
use Rattle.cx_commands.specs.Doing.{Answers, Doing, Judges, of_recording}
use Rattle.cx_commands.specs.declared.status.Status.{Status}
use Rattle.cx_commands.specs.declared.status.Status.TheVariants as status
use Rattle.cx_commands.specs.Opening.{begun_at, scan_from}
use Rattle.cx_window.specs.Cut.{CutsOff}
use Rattle.cx_window.specs.Slice.{Sliced}

-- the text of a window, from the run up to its first step and the run up to its end
abbrev pub text_between : Recording → ℕ → ℕ → Option (Run StepRec) → Option (Run StepRec) → List ℕ
text_between R a b (Some before) (Some after) = recording_text (window_from read_indices R a b before after)
text_between R a b (Some before) None = []
text_between R a b None after = []

abbrev pub window_text : ℕ → ℕ → Opened → Scan → List ℕ
window_text a b o s =
    let R : Recording = decoded o s in
    text_between R a b (run_of (hart_step R.split) R (a - R.base)) (run_of (hart_step R.split) R (b - R.base))

abbrev pub no_text : Opened → Scan → List ℕ
no_text o s = []

-- A command of a window of its input, by what it writes: nothing before all was judged.
abbrev pub of_window : (full : Opened → Scan → List ℕ) → (a b : ℕ) → Doing
of_window full a b = of_recording false (λ o s. has_window (decoded o s) a b) full no_text

-- `window a b`
abbrev pub windowed : ℕ → ℕ → Doing
windowed a b = of_window (window_text a b) a b

-- ---- what such a window is

-- The input is the text of this recording, which is accepted.
pub record IsTextOf (R : Recording) (bytes : List ℕ) : Type 0 where
  pub text : bytes ≡ recording_text R
  pub accepted : Accepts (hart_step R.split) R
  pub good : first_bad hart_step bytes ≡ None

-- W is the window of the recording whose text the input is: it keeps the rules of the format, it is accepted, and its
-- run is that of the recording from step a to step b - 1.
pub record WindowOf (a b : ℕ) (bytes : List ℕ) (W : Recording) : Type 0 where
  pub of : Recording
  pub is : IsTextOf of bytes
  pub window : IsWindow (hart_step of.split) read_indices of a b W
  pub accepted : Accepts (hart_step W.split) W
  pub run : Run StepRec
  pub run_is : run_of (hart_step of.split) of (of.end - of.base) ≡ Some run
  pub same_run : IsSomeAnd (run_of (hart_step W.split) W (W.end - W.base)) (λ here. here.records ≡ take (b - a)
      (drop (a - of.base) run.records))

-- A command refuses neither of two inputs, and writes the same of both.
pub record WritesAlike (d : Doing) (one other : List ℕ) : Type 0 where
  pub good : d.refusal one ≡ None
  pub other_good : d.refusal other ≡ None
  pub same : d.full one ≡ d.full other

-- An answer that isn't a fault or want of memory is Done, and what it leaves is what is written of these bytes.
abbrev pub DoneAs : Doing → List ℕ → Option (List ℕ) → Option (List ℕ) → Status → Type 0
DoneAs d bytes held now status.Done = Appends held now (d.full bytes)
DoneAs d bytes held now status.ReadFault = Unit {0}
DoneAs d bytes held now status.WriteFault = Unit {0}
DoneAs d bytes held now status.WorldFault = Unit {0}
DoneAs d bytes held now status.NoMemory = Unit {0}
DoneAs d bytes held now _ = ⊥

-- ---- the parts of a call

-- a slice that was cut off an input, which has the window
pub record IsCut (a b : ℕ) (bytes : List ℕ) (slice : Sliced) : Type 0 where
  pub opened : Opened
  pub place : Place
  pub begun : begun_at (start_of bytes) ≡ Ok (opened, place)
  pub cuts : CutsOff opened (scan_from opened place) a b slice

-- a slice of the window that the input has, or the answer to it
abbrev pub ReadsSlice : (full : Opened → Scan → List ℕ) → (a b : ℕ) → List ℕ → (whole cut : Type 0)
    → Result Sliced Status → Type 0
ReadsSlice full a b bytes whole cut (Ok slice) = whole → IsCut a b bytes slice
ReadsSlice full a b bytes whole cut (Err status) = Answers (of_window full a b) bytes whole cut status

-- the answers that it may have
abbrev pub IsWindowStatus : Status → Type 0
IsWindowStatus status.Usage = ⊥
IsWindowStatus status.WorldFault = ⊥
IsWindowStatus (status.NotBuilt n) = ⊥
IsWindowStatus _ = Unit {0}

-- those that reading may end with
abbrev pub IsReadRefusal : Status → Type 0
IsReadRefusal status.Done = ⊥
IsReadRefusal status.WriteFault = ⊥
IsReadRefusal answer = IsWindowStatus answer

-- the whole input was judged: a slice was read, or the answer instead of it says so
abbrev pub ReadAll : {X : Type 0} → Result X Status → Type 0
ReadAll (Ok x) = Unit {0}
ReadAll (Err status) = Judges false status
