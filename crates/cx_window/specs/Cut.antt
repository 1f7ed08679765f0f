-- What cutting a window from a replay gives.
use Rattle.std.specs.Prelude.{◌≡◌, ℕ, ◌-◌, List, drop, length, Bool, true, false, Option, None, Some, Result}
use Rattle.std.specs.Prelude.{Ok}
use Rattle.std.specs.Prelude.{Err}
use Rattle.cx_hart.specs.HartStep.{hart_step}
use Rattle.cx_hart.specs.Reads.{read_indices}
use Rattle.cx_hart.specs.declared.record.StepRec.{StepRec}
use Rattle.cx_log.specs.Reading.{Opened}
use Rattle.cx_log.specs.Scan.{Scan, decoded}
use Rattle.cx_machine.specs.Machine.{MachineState}
use Rattle.cx_replay.specs.KeptRecords.{scan_of}
use Rattle.cx_replay.specs.Replaying.{GaveAll, IsGoodUpTo}
use Rattle.cx_replay.specs.declared.fault.ReplayFault.{ReplayFault}
use Rattle.cx_replay.specs.declared.fault.ReplayFault.TheVariants as fault
use Rattle.cx_ram.specs.PhysicalMemory.{SavedMemory}
use Rattle.cx_run.specs.FirstBad.{Broken, Format, bad_behind}
use Rattle.cx_run.specs.Run.{Accepts, Run, run_of}
use Rattle.cx_run.specs.Window.{IsWindow, has_window}
use Rattle.cx_window.specs.Slice.{Sliced, opened_of, written_of}
use Rattle.cx_window.specs.Slicing.{Slices, Slicing}

-- where nothing is bad, the recording is accepted
abbrev pub IsJudged : Opened → Scan → Type 0
IsJudged o whole = bad_behind hart_step o whole ≡ None → Accepts (hart_step o.header.split) (decoded o whole)

-- All steps of the recording were given, and this is kept of it, with these memories saved; the next step is its end.
pub record HasGiven (o : Opened) (whole : Scan) (at : ℕ) (saved : List (Option SavedMemory)) (kept : Slicing) : Type 0
  where
    pub given : List StepRec
    pub machine : MachineState
    pub run : run_of (hart_step o.header.split) (decoded o whole) (length given)
        ≡ Some (record { machine = machine; records = given })
    pub all : GaveAll o whole given
    pub ends : at ≡ whole.upto
    pub slices : Slices (decoded o whole) saved given kept

-- Nothing is bad, and all steps were given.
pub record HasEnded (o : Opened) (whole : Scan) (at : ℕ) (saved : List (Option SavedMemory)) (kept : Slicing) : Type 0
  where
    pub good : bad_behind hart_step o whole ≡ None
    pub gave : HasGiven o whole at saved kept

-- what a fault says of the first bad place of an input that ends at an offset
abbrev pub StopsFor : Opened → Scan → ℕ → (may cut : Type 0) → ReplayFault → Type 0
StopsFor o whole end may cut (fault.Format f) = may → bad_behind hart_step o whole ≡ Some (Format f)
StopsFor o whole end may cut (fault.Broken n) = bad_behind hart_step o whole ≡ Some (Broken n)
StopsFor o whole end may cut fault.ReadFault = cut → IsGoodUpTo end (bad_behind hart_step o whole)
StopsFor o whole end may cut fault.NoMemory = Unit {0}

-- The slicer was shown so many steps as a replay stands behind, or all of them.
abbrev pub IsShown : Opened → Scan → ℕ → List (Option SavedMemory) → Slicing → (Stood : List StepRec → Type 0)
    → (may : Type 0) → Bool → Type 0
IsShown o whole at saved kept Stood may true =
    (given : List StepRec) × (Stood given × Slices (decoded o whole) saved given kept)
IsShown o whole at saved kept Stood may false = may → HasEnded o whole at saved kept

abbrev pub Turned : Opened → Scan → ℕ → List (Option SavedMemory) → Slicing → (Stood : List StepRec → Type 0) → ℕ
    → (may cut : Type 0) → Result Bool ReplayFault → Type 0
Turned o whole at saved kept Stood end may cut (Ok going) = IsShown o whole at saved kept Stood may going
Turned o whole at saved kept Stood end may cut (Err e) = StopsFor o whole end may cut e

abbrev pub Ran : Opened → Scan → ℕ → List (Option SavedMemory) → Slicing → ℕ → (may cut : Type 0)
    → Result (Unit {0}) ReplayFault → Type 0
Ran o whole at saved kept end may cut (Ok u) = may → HasEnded o whole at saved kept
Ran o whole at saved kept end may cut (Err e) = StopsFor o whole end may cut e

-- The window of an input in which nothing is bad, where its steps are there, with all of the memory before the first of
-- them; and nothing where they aren't.
pub record CutsOff (o : Opened) (whole : Scan) (a b : ℕ) (slice : Sliced) : Type 0 where
  pub good : bad_behind hart_step o whole ≡ None
  pub window : IsWindow (hart_step o.header.split) read_indices (decoded o whole) a b (written_of slice)
  pub memory : slice.memory ≡ window.before.machine.memory

pub record HasNone (o : Opened) (whole : Scan) (a b : ℕ) : Type 0 where
  pub good : bad_behind hart_step o whole ≡ None
  pub lacks : has_window (decoded o whole) a b ≡ false

abbrev pub Cuts : Opened → Scan → (a b end : ℕ) → (may cut : Type 0) → Result (Option Sliced) ReplayFault → Type 0
Cuts o whole a b end may cut (Ok None) = may → HasNone o whole a b
Cuts o whole a b end may cut (Ok (Some slice)) = may → CutsOff o whole a b slice
Cuts o whole a b end may cut (Err e) = StopsFor o whole end may cut e

-- The steps of a slice run again, from the machine before the first of them on: as those of the recording did, with the
-- same records, and nothing is bad.
pub record RunsAgain (o : Opened) (whole : Scan) (a b : ℕ) (slice : Sliced) : Type 0 where
  pub from : slice.header.base ≡ a
  pub to : slice.to ≡ b
  pub run : Run StepRec
  pub up_to_b : run_of (hart_step o.header.split) (decoded o whole) (b - o.header.base) ≡ Some run
  pub again : run_of (hart_step slice.header.split) (decoded (opened_of slice) (scan_of slice.events slice.to)) (b - a)
      ≡ Some (record { machine = run.machine; records = drop (a - o.header.base) run.records })
  pub good : bad_behind hart_step (opened_of slice) (scan_of slice.events slice.to) ≡ None
