-- Commands that write as the steps of a recording are settled: what they have written, step by step.
use Rattle.std.specs.Prelude.{◌≡◌, ℕ, ◌+◌, ◌≤◌, List, [], length, Bool, true, false, Option, None, Some, Result, Ok}
use Rattle.std.specs.Prelude.{Err}
use Rattle.std.specs.Io.KnownBytes.{Appends}
use Rattle.cx_codec.specs.Blocks.{HasFront, StandsFor, whole as whole_blocks}
use Rattle.cx_codec.specs.declared.fault.OutFault.{OutFault}
use Rattle.cx_hart.specs.HartStep.{hart_step}
use Rattle.cx_hart.specs.declared.record.StepRec.{StepRec}
use Rattle.cx_log.specs.Order.{InOrder, at_start}
use Rattle.cx_log.specs.Reading.{Opened}
use Rattle.cx_log.specs.Recording.{Recording}
use Rattle.cx_log.specs.Scan.{Scan, decoded}
use Rattle.cx_replay.specs.Replaying.{GaveAll, IsGoodUpTo}
use Rattle.cx_run.specs.FirstBad.{Broken, Format, bad_behind, carried}
use Rattle.cx_run.specs.Run.{Run, run_of}
use Rattle.cx_commands.specs.Doing.{Doing, of_recording}
use Rattle.cx_commands.specs.declared.status.Status.{Status}
use Rattle.cx_commands.specs.declared.status.Status.TheVariants as status

-- ---- what is settled

abbrev pub records_of : Option (Run StepRec) → List StepRec
records_of None = []
records_of (Some run) = run.records

-- the records of the steps that are carried out, of those that the records of an input settle
abbrev pub settled_steps : Opened → Scan → List StepRec
settled_steps o s =
    let R : Recording = decoded o s in
    records_of (run_of (hart_step R.split) R (carried hart_step R))

-- the text of these, where text is that of the first steps of a run
abbrev pub settled_by : (Opened → Scan → List StepRec → List ℕ) → Opened → Scan → List ℕ
settled_by text o s = text o s (settled_steps o s)

-- The answers of such a command; that what it seeks isn't there is one only where it seeks something.
abbrev pub IsStreamStatus : (seeks : Bool) → Status → Type 0
IsStreamStatus seeks status.Usage = ⊥
IsStreamStatus seeks status.NotThere = seeks ≡ true
IsStreamStatus seeks status.WorldFault = ⊥
IsStreamStatus seeks (status.NotBuilt n) = ⊥
IsStreamStatus seeks _ = Unit {0}

-- those that it is refused with
abbrev pub IsStreamRefusal : (seeks : Bool) → Status → Type 0
IsStreamRefusal seeks status.Done = ⊥
IsStreamRefusal seeks answer = IsStreamStatus seeks answer

-- What it does, by whether what it seeks is among the steps, by the text of the first steps, and by the full one.
abbrev pub sought : (List StepRec → Bool) → (Opened → Scan → List StepRec → List ℕ) → (Opened → Scan → List ℕ) → Doing
sought there text full = of_recording true (λ o s. there (settled_steps o s)) full (settled_by text)

-- nothing is sought
abbrev pub streamed : (Opened → Scan → List StepRec → List ℕ) → (Opened → Scan → List ℕ) → Doing
streamed text full = sought (λ records. true) text full

-- ---- a teller

-- The records of an input are in order, up to a step behind all that they settle.
pub record IsOrdered (o : Opened) (s : Scan) : Type 0 where
  pub end : ℕ
  pub order : InOrder o.header.pages (at_start o.header.base o.header.start) s.events end
  pub upto : s.upto ≤ end

-- A text was put since the sink held base, and what is kept beside what waits fits it.
pub record Told (base : Option (List ℕ)) (text waiting : List ℕ) (held : Option (List ℕ)) (Keeps : Type 0) : Type 0
  where
    pub stands : StandsFor base text waiting held
    pub keeps : Keeps

-- a teller was made, which put the text before the first step, or a front of it was put
abbrev pub StartsOn : {W : Type 0} → Option (List ℕ) → List ℕ → (waiting : W → List ℕ) → Option (List ℕ)
    → (Keeps : W → Type 0) → Result W OutFault → Type 0
StartsOn base text waiting held Keeps (Ok w) = Told base text (waiting w) held (Keeps w)
StartsOn base text waiting held Keeps (Err e) = HasFront base text held

-- a step was told, or the sink or memory gave out and left a front of the text
abbrev pub TellsOn : Option (List ℕ) → (text waiting : List ℕ) → Option (List ℕ) → (Keeps : Type 0)
    → Result (Unit {0}) OutFault → Type 0
TellsOn base text waiting held Keeps (Ok u) = Told base text waiting held Keeps
TellsOn base text waiting held Keeps (Err e) = HasFront base text held

-- all of a text was written, or a front of it
abbrev pub FinishesOn : {E : Type 0} → Option (List ℕ) → List ℕ → Option (List ℕ) → Result (Unit {0}) E → Type 0
FinishesOn base full held (Ok u) = Appends base held full
FinishesOn base full held (Err e) = HasFront base full held

-- All steps of an input in which nothing is bad have these records, and this is the step behind the last.
pub record IsAll (o : Opened) (s : Scan) (given : List StepRec) (end : ℕ) : Type 0 where
  pub order : InOrder o.header.pages (at_start o.header.base o.header.start) s.events s.upto
  pub all : given ≡ settled_steps o s
  pub count : end ≡ o.header.base + length given
  pub ends : end ≡ s.upto

-- ---- the steps of an input

-- What a refusal says of the input, and leaves of the text of what is settled.
abbrev pub StopsTelling : Opened → Scan → List ℕ → ℕ → (may cut : Type 0) → Option (List ℕ) → Option (List ℕ) → Status
    → Type 0
StopsTelling o s text end may cut base held (status.Format f) =
    may → (bad_behind hart_step o s ≡ Some (Format f)) × Appends base held (whole_blocks text)
StopsTelling o s text end may cut base held (status.Broken n) =
    (bad_behind hart_step o s ≡ Some (Broken n)) × Appends base held (whole_blocks text)
StopsTelling o s text end may cut base held status.ReadFault =
    cut → IsGoodUpTo end (bad_behind hart_step o s) × Appends base held (whole_blocks text)
StopsTelling o s text end may cut base held status.WriteFault = HasFront base text held
StopsTelling o s text end may cut base held status.NoMemory = HasFront base text held
StopsTelling o s text end may cut base held _ = ⊥

-- A run was told to its end, and the next step is the one behind it.
pub record IsRun (o : Opened) (s : Scan) (given : List StepRec) (at : ℕ) (may : Type 0) : Type 0 where
  pub gave : GaveAll o s given
  pub all : given ≡ settled_steps o s
  pub count : at ≡ o.header.base + length given
  pub good : may → bad_behind hart_step o s ≡ None

-- so many steps were told as the replay stands behind, or all
abbrev pub IsTold : Opened → Scan → (HasTold Stood : List StepRec → Type 0) → ℕ → (may : Type 0) → Bool → Type 0
IsTold o s HasTold Stood at may true = (given : List StepRec) × (Stood given × HasTold given)
IsTold o s HasTold Stood at may false = (given : List StepRec) × (IsRun o s given at may × HasTold given)

-- what a step of a command says: text is that of all that is settled
abbrev pub Tells : Opened → Scan → List ℕ → Option (List ℕ) → Option (List ℕ) → (HasTold Stood : List StepRec → Type 0)
    → ℕ → ℕ → (may cut : Type 0) → Result Bool Status → Type 0
Tells o s text base held HasTold Stood at end may cut (Ok going) = IsTold o s HasTold Stood at may going
Tells o s text base held HasTold Stood at end may cut (Err status) = StopsTelling o s text end may cut base held status

abbrev pub TellsThrough : Opened → Scan → List ℕ → Option (List ℕ) → Option (List ℕ)
    → (HasTold : List StepRec → Type 0) → ℕ → ℕ → (may cut : Type 0) → Result (Unit {0}) Status → Type 0
TellsThrough o s text base held HasTold at end may cut (Ok u) =
    (given : List StepRec) × (IsRun o s given at may × HasTold given)
TellsThrough o s text base held HasTold at end may cut (Err status) =
    StopsTelling o s text end may cut base held status
