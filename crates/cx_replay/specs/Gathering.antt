-- How the next step is settled: the parts of a call, and what each says of the records of an input.
use Rattle.std.specs.Prelude.{◌≡◌, ◌⊎◌, ℕ, ◌<◌, ◌≤◌, Bool, true, false, List, Option, None, Some, IsTrue, Result, Ok}
use Rattle.std.specs.Prelude.{Err}
use Rattle.cx_hart.specs.declared.answer.Went.{Went}
use Rattle.cx_hart.specs.declared.answer.Went.TheVariants as went
use Rattle.cx_hart.specs.declared.record.StepRec.{StepRec}
use Rattle.cx_log.specs.Scan.{Scan, bad_field}
use Rattle.cx_machine.specs.Due.{Due, IsDue}
use Rattle.cx_machine.specs.Machine.{MachineState}
use Rattle.cx_machine.specs.Step.{Stepped}
use Rattle.cx_replay.specs.Records.{Seen}
use Rattle.cx_replay.specs.Replaying.{Gathers, IsRead, IsSound, Progress, Settled}
use Rattle.cx_replay.specs.Taken.{IsTaken}
use Rattle.cx_replay.specs.declared.fault.ReplayFault.{ReplayFault}
use Rattle.cx_replay.specs.declared.fault.ReplayFault.TheVariants.{Format, Broken, ReadFault, NoMemory}

-- ---- what holds whether the source tells or not

-- It gathers the records of the next step, and was given none of a later one.
pub record IsGathering (p : Progress) (due : Due) (r : Seen) : Type 0 where
  pub live : IsTrue r.live
  pub more : r.ended ≡ false
  pub going : p.ended ≡ false
  pub last : r.last ≡ p.at
  pub handed : IsDue r.pages due

-- The next step is settled.
pub record IsReady (p : Progress) (due : Due) (r : Seen) : Type 0 where
  pub sound : IsSound p r
  pub within : p.at < p.upto
  pub handed : IsDue r.pages due

-- It is at the end of the input, and nothing changed.
pub record IsAtEnd (p now : Progress) (r after : Seen) : Type 0 where
  pub sound : IsSound now after
  pub still : now ≡ p
  pub bytes : after.bytes ≡ r.bytes

-- the next step is settled, or this holds
abbrev pub IsReadyOr : (otherwise : Type 0) → Progress → Due → Seen → Result Bool ReplayFault → Type 0
IsReadyOr otherwise p due r (Ok true) = IsReady p due r
IsReadyOr otherwise p due r (Ok false) = otherwise
IsReadyOr otherwise p due r (Err e) = Unit {0}

-- ---- what is said of an input

-- No step from this one on is settled, and the first bad field is this, or none.
pub record Stops (whole : Scan) (at : ℕ) (field : Option ℕ) : Type 0 where
  pub upto : whole.upto ≡ at
  pub bad : bad_field whole.stop ≡ field

-- a fault, in an input that ends at an offset
abbrev pub FailsOn : Scan → ℕ → ℕ → (may cut : Type 0) → ReplayFault → Type 0
FailsOn whole at end may cut (Format f) = may → Stops whole at (Some f)
FailsOn whole at end may cut ReadFault = cut → Stops whole at None ⊎ Stops whole at (Some end)
FailsOn whole at end may cut (Broken n) = ⊥
FailsOn whole at end may cut NoMemory = Unit {0}

-- the next step is settled, or not yet
abbrev pub IsTurned : Scan → Progress → Due → List ℕ → (Has : Scan → Type 0) → Bool → Type 0
IsTurned whole p due bytes Has true = Settled whole due p bytes Has
IsTurned whole p due bytes Has false = Gathers whole p.at due p.marked Has

-- one record more
abbrev pub TurnsOn : Scan → Progress → Due → List ℕ → (Has : Scan → Type 0) → ℕ → (may cut : Type 0)
    → Result Bool ReplayFault → Type 0
TurnsOn whole p due bytes Has end may cut (Ok settled) = IsTurned whole p due bytes Has settled
TurnsOn whole p due bytes Has end may cut (Err e) = FailsOn whole p.at end may cut e

-- all records of the next step
abbrev pub GathersOn : Scan → Progress → Due → List ℕ → (Has : Scan → Type 0) → ℕ → (may cut : Type 0)
    → Result (Unit {0}) ReplayFault → Type 0
GathersOn whole p due bytes Has end may cut (Ok u) = Settled whole due p bytes Has
GathersOn whole p due bytes Has end may cut (Err e) = FailsOn whole p.at end may cut e

-- the next step, or the end of the input
abbrev pub SettlesOn : Scan → Progress → Due → List ℕ → (Has : Scan → Type 0) → ℕ → (may cut : Type 0)
    → Result Bool ReplayFault → Type 0
SettlesOn whole p due bytes Has end may cut (Ok true) = Settled whole due p bytes Has
SettlesOn whole p due bytes Has end may cut (Ok false) = (whole.upto ≡ p.at)
    × (may → Stops whole p.at None × IsRead whole p.at p bytes Has)
SettlesOn whole p due bytes Has end may cut (Err e) = FailsOn whole p.at end may cut e

-- ---- the step itself

abbrev pub is_stepped : Went → Bool
is_stepped went.Stepped = true
is_stepped (went.NeedsValue what) = false
is_stepped went.ValueLeft = false

-- It was carried out, which left this machine, and this is known of its record; or it can't be.
abbrev pub IsCarriedOut : Option (Stepped StepRec) → (Known : StepRec → Type 0) → MachineState → Bool → Type 0
IsCarriedOut outcome Known machine true =
    (rec : StepRec) × ((outcome ≡ Some (record { machine = machine; rec = rec })) × Known rec)
IsCarriedOut outcome Known machine false = outcome ≡ None

-- where memory was refused, it wasn't tried
abbrev pub TakesStep : {E : Type 0} → Option (Stepped StepRec) → (Known : StepRec → Type 0) → MachineState
    → Result Bool E → Type 0
TakesStep outcome Known machine (Ok carried) = IsCarriedOut outcome Known machine carried
TakesStep outcome Known machine (Err e) = Unit {0}

-- a record of which this is known is that of a step that was taken
abbrev pub TellsTaken : (Known : StepRec → Type 0) → Result Bool ReplayFault → Type 0
TellsTaken Known (Ok true) = (rec : StepRec) × (Known rec × IsTaken rec)
TellsTaken Known (Ok false) = Unit {0}
TellsTaken Known (Err e) = Unit {0}
