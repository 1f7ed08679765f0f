-- The groups of an input, up to its end or to the first bad field.
use Rattle.std.specs.Prelude.{◌≡◌, ℕ, zero, suc, ◌-◌, ◌^◌, List, [], ◌∷◌, length, None, Some, Result, Ok, Err}
use Rattle.cx_codec.specs.Checks.{close_at}
use Rattle.cx_codec.specs.Place.{Place, Takes}
use Rattle.cx_slices.specs.Groups.{Group}
use Rattle.cx_slices.specs.Settled.{SliceScan}
use Rattle.cx_slicefmt.specs.Reading.{entry_at}
use Rattle.cx_slicefmt.specs.Rules.{AreSpelled, Form, SliceEntry, GroupOf, EndAt, process}
use Rattle.cx_slicefmt.specs.Text.{ended_text}

abbrev pub with_group : Group ℕ → SliceScan ℕ → SliceScan ℕ
with_group g rest = record { groups = g ∷ rest.groups; upto = rest.upto; bad = rest.bad }

-- a field is bad where the next index has to be a least one or above
abbrev pub stopped_at : ℕ → ℕ → SliceScan ℕ
stopped_at least o = record { groups = []; upto = least - 1; bad = Some o }

-- An end settles its count where nothing follows it.
abbrev pub by_end : ℕ → ℕ → Result (Unit {0} × Place) ℕ → SliceScan ℕ
by_end least count (Ok x) = record { groups = []; upto = count; bad = None }
by_end least count (Err o) = stopped_at least o

abbrev pub by_entry : (ℕ → Place → SliceScan ℕ) → ℕ → Place → SliceEntry → SliceScan ℕ
by_entry rest least q (GroupOf g) = with_group g (rest (suc g.index) q)
by_entry rest least q (EndAt count) = by_end least count (close_at q)

-- What an entry comes to, where rest scans what is behind it. One that doesn't decode settles nothing.
abbrev pub scan_by : (ℕ → Place → SliceScan ℕ) → ℕ → Result (SliceEntry × Place) ℕ → SliceScan ℕ
scan_by rest least (Err o) = stopped_at least o
scan_by rest least (Ok x) = by_entry rest least x.1 x.0

-- at most so many entries
abbrev pub groups_within : ℕ → Form → ℕ → Place → SliceScan ℕ
groups_within zero form least p = stopped_at least p.at
groups_within (suc most) form least p = scan_by (groups_within most form) least (entry_at form least p)

-- All of them: each takes a byte at least.
unfoldable pub scan_groups : Form → ℕ → Place → SliceScan ℕ
scan_groups form least p = groups_within (suc (length p.ahead)) form least p

-- where a process slice stands behind its magic
abbrev pub behind_slice_magic : List ℕ → Place
behind_slice_magic bytes = record { at = 4; limit = 2 ^ 60; ahead = bytes }

-- the groups of a process slice, of the bytes behind its magic
abbrev pub slice_scan : List ℕ → SliceScan ℕ
slice_scan bytes = scan_groups process 0 (behind_slice_magic bytes)

-- ---- what groups and an end are scanned as

-- by what follows the end
abbrev pub scan_of : ℕ → List (Group ℕ) → ℕ → Result (Unit {0} × Place) ℕ → SliceScan ℕ
scan_of least [] count r = by_end least count r
scan_of least (g ∷ gs) count r = with_group g (scan_of (suc g.index) gs count r)

-- A scan that found no bad field is of groups that can be spelled, whose text stands there, with nothing behind it.
pub record IsWholeScan (form : Form) (least : ℕ) (p : Place) (s : SliceScan ℕ) : Type 0 where
  pub after : Place
  pub spelled : AreSpelled form least s.groups s.upto
  pub takes : Takes p (ended_text least s.groups s.upto) after
  pub none : after.ahead ≡ []
