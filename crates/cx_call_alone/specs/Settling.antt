-- How the next step is settled: what a record that is read says of an input.
use Rattle.std.specs.Prelude.{◌≡◌, ℕ, ◌+◌, ◌<◌, ◌≤◌, ◌^◌, ◌⊎◌, true}
use Rattle.std.specs.Prelude.{false, List, [], Option, None, Some, Result, Ok, Err}
use Rattle.std.specs.Prelude.{unwrap_or}
use Rattle.cx_codec.specs.Place.{Place}
use Rattle.cx_codec.specs.Reads.{BadAt, Cut, Met, Other}
use Rattle.cx_map.specs.Bytes.{AreBytes}
use Rattle.cx_alone.specs.Replaying.{IsFormedUpTo}
use Rattle.cx_replay.specs.declared.fault.ReplayFault.{ReplayFault}
use Rattle.cx_replay.specs.declared.fault.ReplayFault.TheVariants.{Format, Broken, ReadFault, NoMemory}
use Rattle.cx_callfmt.specs.Rules.{Behind, CallStands}
use Rattle.cx_callfmt.specs.Scan.{CallScan, call_stops}
use Rattle.cx_callfmt.specs.Text.{last_index}
use Rattle.cx_callfmt.specs.declared.fault.CallFault.{CallFault}
use Rattle.cx_callfmt.specs.declared.fault.CallFault.TheVariants.{
  Format as bad_field,
  ReadFault as read_fault,
  NoMemory as no_memory,
}
use Rattle.cx_call_alone.specs.Ahead.{
  IsAheadCalls,
  IsMidway,
  entry_held,
  place_called,
  step_held,
  untaken_records,
}
use Rattle.cx_call_alone.specs.Placed.{placed_of}
use Rattle.cx_call_alone.specs.Stepping.{RisesIn}
use Rattle.cx_call_alone.specs.declared.ahead.Ahead.{Ahead}
use Rattle.cx_call_alone.specs.declared.ahead.Due.{Due}
use Rattle.cx_call_alone.specs.declared.ahead.Due.TheVariants as due
use Rattle.cx_call_alone.specs.declared.items.StepItems.{StepItems}
use Rattle.cx_call_alone.specs.declared.items.Told.{Told}

-- what the fault of gathering a head becomes
abbrev pub replay_of_call : CallFault → ReplayFault
replay_of_call (bad_field o) = Format o
replay_of_call read_fault = ReadFault
replay_of_call no_memory = NoMemory

-- What a fault says of the input; where memory is refused, nothing.
abbrev pub replay_met : ReplayFault → Met
replay_met (Format o) = BadAt o
replay_met (Broken n) = Other
replay_met ReadFault = Cut
replay_met NoMemory = Other

-- what comes where no step was tried
abbrev pub IsNotBroken : ReplayFault → Type 0
IsNotBroken (Format o) = Unit {0}
IsNotBroken (Broken n) = ⊥
IsNotBroken ReadFault = Unit {0}
IsNotBroken NoMemory = Unit {0}

-- What was read: a record of a step, or the number of steps, where it was the end.
pub record IsReadCall (s : CallScan) (behind : Behind) (upto : ℕ) (waiting : Option Told) (p : Place)
    (left : Option (List ℕ)) : Type 0 where
  pub is : s ≡ untaken_records upto waiting p
  pub stands : CallStands behind (entry_held upto waiting)
  pub bytes : AreBytes p.ahead
  pub spent : waiting ≡ None → unwrap_or left [] ≡ []

-- Where the source failed, what it gave ends inside a record, or with the end.
pub record IsCutOffCalls (s : CallScan) (end : ℕ) : Type 0 where
  pub records : s.records ≡ []
  pub bad : IsFormedUpTo end s.bad

-- what a call that reads a record says of an input, whose records ahead scan as s
abbrev pub ReadsOnCalls : CallScan → Behind → ℕ → Place → Option (List ℕ) → (cut : Type 0)
    → Result (ℕ × Option Told) ReplayFault → Type 0
ReadsOnCalls s behind end p left cut (Ok read) = IsReadCall s behind read.0 read.1 p left
ReadsOnCalls s behind end p left cut (Err (Format o)) = s ≡ call_stops behind o
ReadsOnCalls s behind end p left cut (Err ReadFault) = cut → IsCutOffCalls s end
ReadsOnCalls s behind end p left cut (Err (Broken n)) = ⊥
ReadsOnCalls s behind end p left cut (Err NoMemory) = Unit {0}

-- The next step is settled, and this is what is told of it.
pub record StepIsDue (whole : CallScan) (at : ℕ) (At : ℕ → Type 0) (step : StepItems) : Type 0 where
  pub is : step_held step ≡ placed_of 32 at whole.records
  pub rises : RisesIn step.call
  pub within : at < whole.upto
  pub ahead : At (at + 1)

-- All steps were taken, the end was read, and no field is bad.
pub record EndIsDue (whole : CallScan) (at : ℕ) (At : ℕ → Type 0) : Type 0 where
  pub all : at ≡ whole.upto
  pub ended : whole.ended ≡ true
  pub good : whole.bad ≡ None
  pub ahead : At at

abbrev pub IsDueCalls : CallScan → ℕ → (At : ℕ → Type 0) → Due → Type 0
IsDueCalls whole at At (due.Step step) = StepIsDue whole at At step
IsDueCalls whole at At due.End = EndIsDue whole at At

-- no step from this one on is settled
abbrev pub SettlesNoCall : CallScan → ℕ → ℕ → (cut : Type 0) → ReplayFault → Type 0
SettlesNoCall whole end at cut (Format o) = (whole.upto ≡ at) × (whole.ended ≡ false) × (whole.bad ≡ Some o)
SettlesNoCall whole end at cut ReadFault = cut → (last_index 0 whole.records ≡ at) × IsFormedUpTo end whole.bad
SettlesNoCall whole end at cut (Broken n) = ⊥
SettlesNoCall whole end at cut NoMemory = Unit {0}

abbrev pub IsAheadBy : CallScan → ℕ → Ahead → Option (List ℕ) → (given input : List ℕ) → ℕ → Type 0
IsAheadBy whole end a left given input at =
    IsAheadCalls whole end at a.upto a.waiting (place_called a.reader given input) left

-- What a call that settles a step says of an input that scans as whole.
abbrev pub SettlesOn : CallScan → ℕ → ℕ → Ahead → Option (List ℕ) → (given input : List ℕ) → Result Due ReplayFault
    → Type 0
SettlesOn whole end at a left given input (Ok due) = IsDueCalls whole at (IsAheadBy whole end a left given input) due
SettlesOn whole end at a left given input (Err fault) = SettlesNoCall whole end at (input ≡ given) fault

-- What a call that takes one record of it does.
abbrev pub TakesOn : CallScan → ℕ → ℕ → ℕ → StepItems → Ahead → Option (List ℕ) → (given input : List ℕ)
    → Result (Unit {0}) ReplayFault → Type 0
TakesOn whole end at most step a left given input (Ok u) =
    IsMidway whole end at most step a.upto a.waiting (place_called a.reader given input) left
TakesOn whole end at most step a left given input (Err fault) = SettlesNoCall whole end at (input ≡ given) fault

-- Where there is no next step the end was read.
abbrev pub EndsOver : Option Told → Due → Type 0
EndsOver waiting (due.Step step) = Unit {0}
EndsOver waiting due.End = waiting ≡ None
