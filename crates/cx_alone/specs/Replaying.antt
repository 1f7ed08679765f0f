-- What a replay of a slice stands for, and what its answers say.
use Rattle.std.specs.Prelude.{◌≡◌, ℕ, ◌+◌, ◌-◌, ◌⊎◌, List, [], ◌∷◌, ◌++◌, length, Option, None, Some, Result, Ok, Err}
use Rattle.cx_observe.specs.User.{user}
use Rattle.cx_observe.specs.declared.obs.Obs.{Obs}
use Rattle.cx_program.specs.Knowing.{known_by}
use Rattle.cx_replay.specs.declared.fault.ReplayFault.{ReplayFault}
use Rattle.cx_replay.specs.declared.fault.ReplayFault.TheVariants.{Format, Broken, ReadFault, NoMemory}
use Rattle.cx_slicefmt.specs.Text.{least_behind}
use Rattle.cx_slices.specs.Groups.{GroupsRise}
use Rattle.cx_slices.specs.Items.{Known, known_at, start}
use Rattle.cx_slices.specs.Settled.{BadField, BreaksAt, SliceScan, settled_run, slice_bad}
use Rattle.cx_alone.specs.Ahead.{GoesOn, IsAhead, place_of}
use Rattle.cx_alone.specs.declared.alone.Alone.{Alone}

-- It can go on.
abbrev pub IsGoing : Alone → Type 0
IsGoing a = GoesOn a.ahead.upto a.ahead.waiting a.ahead.reader

-- Of a slice that is scanned as whole these observations are the run of its first steps, and this is known behind them.
pub record HasRun (whole : SliceScan ℕ) (os : List Obs) (at : ℕ) (w : Known) : Type 0 where
  pub rises : GroupsRise 0 whole.groups
  pub run : settled_run user at whole.groups ≡ os
  pub count : length os ≡ at
  pub known : w ≡ known_at user (start user) os

-- In an input that ends at an offset and is scanned as whole, which the source gave so far and has left, these
-- observations were given, and the replay stands behind them.
pub record Stands (whole : SliceScan ℕ) (end : ℕ) (os : List Obs) (a : Alone) (left : Option (List ℕ))
    (given input : List ℕ) : Type 0 where
  pub run : HasRun whole os a.at (known_by a.standing)
  pub ahead : IsAhead whole end a.at a.ahead.upto a.ahead.waiting (place_of a.ahead.reader given input) left

-- All that is settled was given.
abbrev pub GaveAll : SliceScan ℕ → List Obs → Type 0
GaveAll whole os = settled_run user whole.upto whole.groups ≡ os

-- All that the groups settle was given, which is below the last one's index. An end that nobody saw to be the input's
-- settles nothing.
abbrev pub GaveByGroups : SliceScan ℕ → List Obs → Type 0
GaveByGroups whole os = settled_run user (least_behind 0 whole.groups - 1) whole.groups ≡ os

-- No field is bad in an input that ends at an offset, but that it may end too soon.
abbrev pub IsFormedUpTo : ℕ → Option ℕ → Type 0
IsFormedUpTo end bad = (bad ≡ None) ⊎ (bad ≡ Some end)

-- What a refusal says of an input: cut says that it is what the source gave and no more.
abbrev pub Refuses : SliceScan ℕ → ℕ → List Obs → (cut : Type 0) → ReplayFault → Type 0
Refuses whole end os cut (Format o) = (slice_bad user whole ≡ Some (BadField o)) × GaveAll whole os
Refuses whole end os cut (Broken n) =
    (slice_bad user whole ≡ Some (BreaksAt n)) × (GaveAll whole os × (n ≡ length os))
Refuses whole end os cut ReadFault =
    cut → IsFormedUpTo end whole.bad × (GaveByGroups whole os × (length os ≡ least_behind 0 whole.groups - 1))
Refuses whole end os cut NoMemory = Unit {0}

-- What an answer says of an input: one observation more, that the slice is good and all of it was given, or a refusal.
abbrev pub Answers : SliceScan ℕ → ℕ → List Obs → Alone → Option (List ℕ) → (given input : List ℕ)
    → Result (Option Obs) ReplayFault → Type 0
Answers whole end os a left given input (Ok (Some o)) = Stands whole end (os ++ o ∷ []) a left given input
Answers whole end os a left given input (Ok None) =
    (slice_bad user whole ≡ None) × (GaveAll whole os × Stands whole end os a left given input)
Answers whole end os a left given input (Err fault) = Refuses whole end os (input ≡ given) fault

-- The same of a slice that is opened.
abbrev pub Opens : SliceScan ℕ → ℕ → Option (List ℕ) → (given input : List ℕ) → Result Alone ReplayFault → Type 0
Opens whole end left given input (Ok a) = Stands whole end [] a left given input
Opens whole end left given input (Err fault) = Refuses whole end [] (input ≡ given) fault

-- how many observations were given, behind a call
abbrev pub CountsOn : ℕ → ℕ → Result (Option Obs) ReplayFault → Type 0
CountsOn old new (Ok (Some o)) = new ≡ old + 1
CountsOn old new (Ok None) = new ≡ old
CountsOn old new (Err fault) = Unit {0}
