-- What is kept of a run as it goes on, while its end isn't known.
use Rattle.std.specs.Prelude.{◌≡◌, ℕ, ◌+◌, ◌*◌, ◌<◌, ◌≤◌, List, length, Bool, true, false, Option, Some, Result}
use Rattle.std.specs.Prelude.{Ok, Err, None}
use Rattle.cx_hart.specs.HartStep.{hart_step}
use Rattle.cx_hart.specs.Whole.{Whole, machine_of}
use Rattle.cx_hart.specs.declared.record.StepRec.{StepRec}
use Rattle.cx_log.specs.Reading.{Opened}
use Rattle.cx_log.specs.Recording.{Recording}
use Rattle.cx_log.specs.Scan.{Scan, decoded}
use Rattle.cx_ram.specs.PhysicalMemory.{SavedMemory}
use Rattle.cx_replay.specs.Replaying.{GaveAll, IsGoodUpTo, Replaying}
use Rattle.cx_replay.specs.declared.fault.ReplayFault.{ReplayFault}
use Rattle.cx_replay.specs.declared.fault.ReplayFault.TheVariants as fault
use Rattle.cx_run.specs.FirstBad.{Broken, Format, bad_behind}
use Rattle.cx_run.specs.Run.{run_of}
use Rattle.cx_seek.specs.Checkpoints.{AreCheckpoints, AreHeld}
use Rattle.cx_seek.specs.Interval.{interval}
use Rattle.cx_seek.specs.declared.keeping.Keeping.{Keeping}

-- ---- how many there are

-- Behind so many steps there is a checkpoint at each multiple of the distance up to there.
pub record Spaced (taken count distance : ℕ) : Type 0 where
  pub least : taken < count * distance
  pub most : count * distance ≤ taken + distance

-- There is one at each multiple but the step that comes next.
pub record SpacedBelow (taken count distance : ℕ) : Type 0 where
  pub least : taken ≤ count * distance
  pub most : count * distance < taken + distance

-- ---- what holds whether the source tells or not

-- A machine with so many pages can be put back to each checkpoint, and they stand as far apart as the steps ask for.
pub record IsKept (pages taken : ℕ) (saved : List (Option SavedMemory)) (kept : Keeping) : Type 0 where
  pub held : AreHeld pages saved kept.checkpoints.items
  pub distance : kept.distance ≡ interval taken
  pub spaced : Spaced taken (length kept.checkpoints.items) kept.distance

-- The same while the machine before the next step isn't kept.
pub record IsKeptBelow (pages taken : ℕ) (saved : List (Option SavedMemory)) (kept : Keeping) : Type 0 where
  pub held : AreHeld pages saved kept.checkpoints.items
  pub distance : kept.distance ≡ interval taken
  pub spaced : SpacedBelow taken (length kept.checkpoints.items) kept.distance

-- The replay stands where it stood; other moments of its machine may be kept.
pub record IsStill {R : Type 0} (old new : Replaying R) : Type 0 where
  pub machine : machine_of new.machine ≡ machine_of old.machine
  pub split : new.machine.split ≡ old.machine.split
  pub rest : new ≡ record old { machine = new.machine }

-- ---- what it is of a run

-- These are the checkpoints and notes of the steps of R below another.
abbrev pub Keeps : Recording → List (Option SavedMemory) → ℕ → Keeping → Type 0
Keeps R saved upto kept = AreCheckpoints R saved kept.notes upto kept.distance kept.checkpoints.items

-- All steps of the recording were given, this is kept of it, and this is the machine behind them.
pub record HasRun (o : Opened) (whole : Scan) (at : ℕ) (machine : Whole) (kept : Keeping) : Type 0 where
  pub given : List StepRec
  pub run : run_of (hart_step o.header.split) (decoded o whole) (length given)
      ≡ Some (record { machine = machine_of machine; records = given })
  pub all : GaveAll o whole given
  pub ends : at ≡ whole.upto
  pub split : machine.split ≡ o.header.split
  pub keeps : Keeps (decoded o whole) machine.saved at kept

-- Nothing is bad, and all steps were given.
pub record HasEnded (o : Opened) (whole : Scan) (at : ℕ) (machine : Whole) (kept : Keeping) : Type 0 where
  pub good : bad_behind hart_step o whole ≡ None
  pub ran : HasRun o whole at machine kept

-- what a fault says of the first bad place of an input that ends at an offset
abbrev pub StopsFor : Opened → Scan → ℕ → (may cut : Type 0) → ReplayFault → Type 0
StopsFor o whole end may cut (fault.Format f) = may → bad_behind hart_step o whole ≡ Some (Format f)
StopsFor o whole end may cut (fault.Broken n) = bad_behind hart_step o whole ≡ Some (Broken n)
StopsFor o whole end may cut fault.ReadFault = cut → IsGoodUpTo end (bad_behind hart_step o whole)
StopsFor o whole end may cut fault.NoMemory = Unit {0}

-- A replay stands before a step, and this is kept; or all steps were given.
abbrev pub IsKeptOf : Opened → Scan → ℕ → Whole → Keeping → (Stood : List StepRec → Type 0) → (may : Type 0) → Bool
    → Type 0
IsKeptOf o whole at machine kept Stood may true =
    (given : List StepRec) × (Stood given × Keeps (decoded o whole) machine.saved at kept)
IsKeptOf o whole at machine kept Stood may false = may → HasEnded o whole at machine kept

abbrev pub Turned : Opened → Scan → ℕ → Whole → Keeping → (Stood : List StepRec → Type 0) → ℕ → (may cut : Type 0)
    → Result Bool ReplayFault → Type 0
Turned o whole at machine kept Stood end may cut (Ok going) = IsKeptOf o whole at machine kept Stood may going
Turned o whole at machine kept Stood end may cut (Err e) = StopsFor o whole end may cut e

abbrev pub Ran : Opened → Scan → ℕ → Whole → Keeping → ℕ → (may cut : Type 0) → Result (Unit {0}) ReplayFault → Type 0
Ran o whole at machine kept end may cut (Ok u) = may → HasEnded o whole at machine kept
Ran o whole at machine kept end may cut (Err e) = StopsFor o whole end may cut e
