-- The events of the steps from one on, kept up to the next mark.
use Rattle.std.specs.Prelude.{◌≡◌, ℕ, suc, ◌+◌, ◌<◌, ◌≤◌, Bool, true, false, List, ◌++◌, Option, None, Some, IsSome}
use Rattle.std.specs.Prelude.{Result, Ok, Err, IsTrue}
use Rattle.cx_hart.specs.HartStep.{hart_step}
use Rattle.cx_hart.specs.declared.record.StepRec.{StepRec}
use Rattle.cx_log.specs.Reading.{Opened}
use Rattle.cx_log.specs.Recording.{Recorded}
use Rattle.cx_log.specs.Scan.{Scan, decoded}
use Rattle.cx_replay.specs.Replaying.{IsGoodUpTo}
use Rattle.cx_run.specs.FirstBad.{bad_behind, carried}
use Rattle.cx_run.specs.StepEvents.{has_mark}
use Rattle.cx_run.specs.Window.{events_between}
use Rattle.cx_keeping.specs.declared.fault.KeepingFault.{KeepingFault}
use Rattle.cx_keeping.specs.declared.fault.KeepingFault.TheVariants as fault
use Rattle.cx_keeping.specs.declared.gathered.Gathered.{Gathered}
use Rattle.cx_keeping.specs.declared.gathered.Gathered.TheVariants as gathered

-- no mark stands above a step and below another
abbrev pub IsFree : (from to : ℕ) → List Recorded → Type 0
IsFree from to events = (n : ℕ) → from < n → n < to → has_mark n events ≡ false

-- These are the events of the steps from one on and below another. A mark at the first of them is one, but none stands
-- at the first step of a recording.
pub record IsKept (o : Opened) (whole : Scan) (from to : ℕ) (kept : List Recorded) : Type 0 where
  pub first : o.header.base ≤ from
  pub rises : from ≤ to
  pub events : events_between o.header.base to whole.events ≡ events_between o.header.base from whole.events ++ kept

-- The events from a step on were kept up to the next one of the replay, and no mark stands between.
pub record GoesTo (o : Opened) (whole : Scan) (from at free : ℕ) (kept : List Recorded)
    (Stood : List StepRec → Type 0) : Type 0 where
  pub given : List StepRec
  pub stands : Stood given
  pub kept_is : IsKept o whole from at kept
  pub none : IsFree from free whole.events

-- the step up to where the settled steps are carried out
abbrev pub reach_of : Opened → Scan → ℕ
reach_of o whole = o.header.base + carried hart_step (decoded o whole)

-- What an answer says of an input that ends at an offset, and scans as whole: may says that it may be the whole input,
-- as far as the source told its end, and cut that it is what was given and no more. The replay stands before the step
-- at, with these events kept from a step on.
abbrev pub GathersEvents : Opened → Scan → (from at : ℕ) → List Recorded → (Stood : List StepRec → Type 0) → ℕ
    → (may cut : Type 0) → Result Gathered KeepingFault → Type 0
GathersEvents o whole from at kept Stood end may cut (Ok (gathered.Mark m)) =
    (m ≡ at) × ((has_mark m whole.events ≡ true) × GoesTo o whole from m m kept Stood)
GathersEvents o whole from at kept Stood end may cut (Ok (gathered.End e)) =
    (whole.upto ≡ e) × (IsKept o whole from e kept × (IsFree from (suc e) whole.events
    × (may → (bad_behind hart_step o whole ≡ None) × GoesTo o whole from e (suc e) kept Stood)))
GathersEvents o whole from at kept Stood end may cut (Ok gathered.Bad) =
    may → IsSome (bad_behind hart_step o whole) × IsFree from (suc (reach_of o whole)) whole.events
GathersEvents o whole from at kept Stood end may cut (Err fault.ReadFault) =
    cut → IsGoodUpTo end (bad_behind hart_step o whole) × IsFree from (suc (reach_of o whole)) whole.events
GathersEvents o whole from at kept Stood end may cut (Err fault.NoMemory) = Unit {0}

-- One step more, behind which no mark stands, or the answer.
abbrev pub GathersStep : Opened → Scan → (from at : ℕ) → List Recorded → (Stood : List StepRec → Type 0) → ℕ
    → (may cut : Type 0) → Result (Option Gathered) KeepingFault → Type 0
GathersStep o whole from at kept Stood end may cut (Ok None) = GoesTo o whole from at (suc at) kept Stood
GathersStep o whole from at kept Stood end may cut (Ok (Some found)) =
    GathersEvents o whole from at kept Stood end may cut (Ok found)
GathersStep o whole from at kept Stood end may cut (Err e) =
    GathersEvents o whole from at kept Stood end may cut (Err e)

-- the step of the replay before and behind a call that answers so
abbrev pub StepsTo : (before now : ℕ) → Gathered → Type 0
StepsTo before now (gathered.Mark m) = (before < now) × (m ≡ now)
StepsTo before now (gathered.End e) = (before ≤ now) × (e ≡ now)
StepsTo before now gathered.Bad = Unit {0}

abbrev pub StepsOnTo : (before now : ℕ) → Option Gathered → Type 0
StepsOnTo before now None = before < now
StepsOnTo before now (Some found) = StepsTo before now found

-- the replay goes on, but behind a bad place
abbrev pub IsLiveBehind : Bool → Option Gathered → Type 0
IsLiveBehind live (Some gathered.Bad) = Unit {0}
IsLiveBehind live _ = IsTrue live

-- behind the end of the recording this is known of what the source has left
abbrev pub IsSpentBehind : (Spent : Type 0) → Gathered → Type 0
IsSpentBehind Spent (gathered.End e) = Spent
IsSpentBehind Spent _ = Unit {0}

abbrev pub LeavesSpent : (Spent : Type 0) → Result (Option Gathered) KeepingFault → Type 0
LeavesSpent Spent (Ok (Some found)) = IsSpentBehind Spent found
LeavesSpent Spent _ = Unit {0}

-- a mark stands at the step, or none does
abbrev pub Finds : ℕ → Bool → Option Gathered → Type 0
Finds at marked None = marked ≡ false
Finds at marked (Some found) = (marked ≡ true) × (found ≡ gathered.Mark at)
