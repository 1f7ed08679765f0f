-- What a replay of a call slice stands for, and what its answers say.
use Rattle.std.specs.Prelude.{◌≡◌, ℕ, List, [], ◌∷◌, ◌++◌, length, Option, None, Some, Result, Ok, Err}
use Rattle.cx_observe.specs.User.{user}
use Rattle.cx_observe.specs.declared.obs.Obs.{Obs}
use Rattle.cx_replay.specs.declared.fault.ReplayFault.{ReplayFault}
use Rattle.cx_replay.specs.declared.fault.ReplayFault.TheVariants.{Format, Broken, ReadFault, NoMemory}
use Rattle.cx_alone.specs.Replaying.{IsFormedUpTo}
use Rattle.cx_calls.specs.Calling.{called}
use Rattle.cx_callfmt.specs.Scan.{CallScan}
use Rattle.cx_callfmt.specs.Text.{last_index}
use Rattle.cx_placing.specs.Called.{CallStanding}
use Rattle.cx_slices.specs.Settled.{BadField, BreaksAt}
use Rattle.cx_call_alone.specs.Ahead.{GoesOnCalls, IsAheadCalls, place_called}
use Rattle.cx_call_alone.specs.Running.{GaveAllCalled, HasCalled}
use Rattle.cx_call_alone.specs.Settled.{calls_bad, ran_upto}
use Rattle.cx_call_alone.specs.Standing.{IsStanding}
use Rattle.cx_call_alone.specs.declared.alone.CallAlone.{CallAlone}

-- It can go on.
abbrev pub IsGoing : CallAlone → Type 0
IsGoing a = GoesOnCalls a.ahead.upto a.ahead.waiting a.ahead.reader

-- how many observations it gave
abbrev pub at_of : CallAlone → ℕ
at_of a = a.at

-- In an input that ends at an offset and is scanned as whole, which the source gave so far and has left, these
-- observations were given, and the replay stands behind them.
pub record Stands (whole : CallScan) (end : ℕ) (os : List Obs) (a : CallAlone) (left : Option (List ℕ))
    (given input : List ℕ) : Type 0 where
  pub s : CallStanding
  pub is : IsStanding s a.called
  pub run : HasCalled user called whole os (at_of a) s
  pub ahead : IsAheadCalls whole end (at_of a) a.ahead.upto a.ahead.waiting (place_called a.ahead.reader given input)
      left

-- All that the records settle was given, which is below the last one's index. An end that nobody saw to be the input's
-- settles nothing.
abbrev pub GaveByRecords : CallScan → List Obs → Type 0
GaveByRecords whole os = ran_upto user called whole (last_index 0 whole.records) ≡ os

-- What a refusal says of an input: cut says that it is what the source gave and no more.
abbrev pub Refuses : CallScan → ℕ → List Obs → (cut : Type 0) → ReplayFault → Type 0
Refuses whole end os cut (Format o) =
    (calls_bad user called whole ≡ Some (BadField o)) × GaveAllCalled user called whole os
Refuses whole end os cut (Broken n) =
    (calls_bad user called whole ≡ Some (BreaksAt n)) × (GaveAllCalled user called whole os × (n ≡ length os))
Refuses whole end os cut ReadFault =
    cut → IsFormedUpTo end whole.bad × (GaveByRecords whole os × (length os ≡ last_index 0 whole.records))
Refuses whole end os cut NoMemory = Unit {0}

-- What an answer says of an input: one observation more, that the slice is good and all of it was given, or a refusal.
abbrev pub Answers : CallScan → ℕ → List Obs → CallAlone → Option (List ℕ) → (given input : List ℕ)
    → Result (Option Obs) ReplayFault → Type 0
Answers whole end os a left given input (Ok (Some o)) = Stands whole end (os ++ o ∷ []) a left given input
Answers whole end os a left given input (Ok None) = (calls_bad user called whole ≡ None)
    × (GaveAllCalled user called whole os × Stands whole end os a left given input)
Answers whole end os a left given input (Err fault) = Refuses whole end os (input ≡ given) fault

-- The same of a slice that is opened.
abbrev pub Opens : CallScan → ℕ → Option (List ℕ) → (given input : List ℕ) → Result CallAlone ReplayFault → Type 0
Opens whole end left given input (Ok a) = Stands whole end [] a left given input
Opens whole end left given input (Err fault) = Refuses whole end [] (input ≡ given) fault
