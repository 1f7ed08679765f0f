-- How the next step is settled: what an entry that is read says of an input.
use Rattle.std.specs.Prelude.{◌≡◌, ◌⊎◌, ℕ, ◌+◌, ◌-◌, ◌<◌, ◌≤◌, ◌^◌, List, [], Option, None, Some, Result, Ok, Err, unwrap_or}
use Rattle.cx_codec.specs.Place.{Place}
use Rattle.cx_map.specs.Bytes.{AreBytes}
use Rattle.cx_replay.specs.declared.fault.ReplayFault.{ReplayFault}
use Rattle.cx_replay.specs.declared.fault.ReplayFault.TheVariants.{Format, Broken, ReadFault, NoMemory}
use Rattle.cx_slicefmt.specs.Scan.{stopped_at}
use Rattle.cx_slicefmt.specs.Text.{least_behind}
use Rattle.cx_slicefmt.specs.declared.items.GroupItems.{GroupItems}
use Rattle.cx_slices.specs.Items.{Items}
use Rattle.cx_slices.specs.Settled.{SliceScan}
use Rattle.cx_alone.specs.Ahead.{IsAhead, place_of, untaken}
use Rattle.cx_alone.specs.Steps.{handed, item_at}
use Rattle.cx_alone.specs.declared.ahead.Ahead.{Ahead}
use Rattle.cx_alone.specs.declared.ahead.Due.{Due}

-- What was read: the step of a group, with its items, or the number of steps, where it was the end.
pub record IsRead (s : SliceScan ℕ) (least upto : ℕ) (waiting : Option GroupItems) (p : Place) (left : Option (List ℕ))
    : Type 0 where
  pub is : s ≡ untaken upto waiting p
  pub from : least ≤ upto
  pub most : upto ≤ 2 ^ 48
  pub bytes : AreBytes p.ahead
  pub spent : waiting ≡ None → unwrap_or left [] ≡ []

-- Where the source failed, what it gave ends inside an entry, or with the end.
pub record IsCutOff (s : SliceScan ℕ) (end : ℕ) : Type 0 where
  pub groups : s.groups ≡ []
  pub bad : (s.bad ≡ None) ⊎ (s.bad ≡ Some end)

-- what a call that reads an entry says of an input, whose entries ahead scan as s
abbrev pub ReadsOn : SliceScan ℕ → ℕ → ℕ → Place → Option (List ℕ) → (cut : Type 0)
    → Result (ℕ × Option GroupItems) ReplayFault → Type 0
ReadsOn s least end p left cut (Ok read) = IsRead s least read.0 read.1 p left
ReadsOn s least end p left cut (Err (Format o)) = s ≡ stopped_at least o
ReadsOn s least end p left cut (Err ReadFault) = cut → IsCutOff s end
ReadsOn s least end p left cut (Err (Broken n)) = ⊥
ReadsOn s least end p left cut (Err NoMemory) = ⊥

-- the next step is settled, and these are its items; or all steps were taken, and nothing is bad
abbrev pub IsDue : SliceScan ℕ → ℕ → (At : ℕ → Type 0) → Option (Items ℕ) → Type 0
IsDue whole at At (Some i) = (i ≡ item_at 32 at whole.groups) × (at < whole.upto) × At (at + 1)
IsDue whole at At None = (at ≡ whole.upto) × (whole.bad ≡ None) × At at

-- no step from this one on is settled
abbrev pub SettlesNone : SliceScan ℕ → ℕ → ℕ → (cut : Type 0) → ReplayFault → Type 0
SettlesNone whole end at cut (Format o) = (whole.upto ≡ at) × (whole.bad ≡ Some o)
SettlesNone whole end at cut ReadFault =
    cut → (least_behind 0 whole.groups - 1 ≡ at) × ((whole.bad ≡ None) ⊎ (whole.bad ≡ Some end))
SettlesNone whole end at cut (Broken n) = ⊥
SettlesNone whole end at cut NoMemory = ⊥

abbrev pub IsAheadBy : SliceScan ℕ → ℕ → Ahead → Option (List ℕ) → (given input : List ℕ) → ℕ → Type 0
IsAheadBy whole end a left given input at = IsAhead whole end at a.upto a.waiting (place_of a.reader given input) left

-- What a call that settles a step says of an input that scans as whole.
abbrev pub SettlesOn : SliceScan ℕ → ℕ → ℕ → Ahead → Option (List ℕ) → (given input : List ℕ) → Result Due ReplayFault
    → Type 0
SettlesOn whole end at a left given input (Ok due) = IsDue whole at (IsAheadBy whole end a left given input) (handed due)
SettlesOn whole end at a left given input (Err fault) = SettlesNone whole end at (input ≡ given) fault

-- The same of one that opens it.
abbrev pub OpensOn : SliceScan ℕ → ℕ → Option (List ℕ) → (given input : List ℕ) → Result Ahead ReplayFault → Type 0
OpensOn whole end left given input (Ok a) = IsAheadBy whole end a left given input 0
OpensOn whole end left given input (Err fault) = SettlesNone whole end 0 (input ≡ given) fault
