-- A slice that is read one entry ahead of its steps.
use Rattle.std.specs.Prelude.{◌≡◌, ℕ, suc, ◌≤◌, ◌^◌, List, [], ◌++◌, Option, None, Some, IsTrue, unwrap_or}
use Rattle.cx_codec.specs.Place.{Place, end_of}
use Rattle.cx_codec.specs.Reads.{Begins, over, place_in}
use Rattle.cx_map.specs.Bytes.{AreBytes}
use Rattle.cx_slicefmt.specs.Engine.{SliceReading, items_in}
use Rattle.cx_slicefmt.specs.Rules.{process}
use Rattle.cx_slicefmt.specs.Scan.{scan_groups, with_group}
use Rattle.cx_slicefmt.specs.declared.items.GroupItems.{GroupItems}
use Rattle.cx_slices.specs.Groups.{Group, GroupsBelow}
use Rattle.cx_slices.specs.Settled.{SliceScan}

-- An input that may be, by what the source gave and has left: it begins with that, and is that where nothing is left.
pub record MayBeInput (left : Option (List ℕ)) (given input : List ℕ) : Type 0 where
  pub begins : Begins given input
  pub whole : unwrap_or left [] ≡ [] → input ≡ given

-- where a reader stands in an input that begins with the bytes given so far
abbrev pub place_of : SliceReading → List ℕ → List ℕ → Place
place_of r given input = place_in (over r.input None given) input

-- The scan of what isn't taken yet: of the group that waits, which is that of step upto, and of all behind it. Where
-- none waits the end was read, of so many steps.
abbrev pub untaken : ℕ → Option GroupItems → Place → SliceScan ℕ
untaken upto None p = record { groups = []; upto = upto; bad = None }
untaken upto (Some items) p =
    with_group (record { index = upto; items = items_in items }) (scan_groups process (suc upto) p)

-- groups in front of those that a scan goes on with
abbrev pub behind : List (Group ℕ) → SliceScan ℕ → SliceScan ℕ
behind past s = record { groups = past ++ s.groups; upto = s.upto; bad = s.bad }

-- The groups of an input are those of steps below the next one, which were taken, and those that aren't; the steps below
-- upto are settled. The input ends at an offset, and nothing is left of it once the end was read.
pub record IsAhead (whole : SliceScan ℕ) (end at upto : ℕ) (waiting : Option GroupItems) (p : Place)
    (left : Option (List ℕ)) : Type 0 where
  pub past : List (Group ℕ)
  pub parts : whole ≡ behind past (untaken upto waiting p)
  pub below : GroupsBelow at past
  pub within : at ≤ upto
  pub most : upto ≤ 2 ^ 48
  pub bytes : AreBytes p.ahead
  pub ends : end ≡ end_of p
  pub spent : waiting ≡ None → unwrap_or left [] ≡ []

-- Where the end was read nothing is left of the source.
abbrev pub EndIsLast : {W : Type 0} → Option W → Option (List ℕ) → Type 0
EndIsLast waiting left = waiting ≡ None → unwrap_or left [] ≡ []

-- What a reader has to be to go on, where a group waits: the next index is above that group's.
abbrev pub GoesOn : ℕ → Option GroupItems → SliceReading → Type 0
GoesOn upto None r = Unit {0}
GoesOn upto (Some items) r = IsTrue r.input.live × (r.ended ≡ None) × (r.least ≡ suc upto)
