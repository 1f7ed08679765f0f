-- What an input that should be a slice settles, and its first bad place.
use Rattle.std.specs.Prelude.{ℕ, nat_lt, List, length, Option, Some, option_map, if◌then◌else◌}
use Rattle.cx_slices.specs.Alone.{run_alone}
use Rattle.cx_slices.specs.Groups.{Group, items_by_step}
use Rattle.cx_slices.specs.Items.{start}
use Rattle.cx_slices.specs.Observed.{Watch}

-- What an input is read as: the groups that were read whole; the index below which all steps are settled, which is the
-- count where the end was read, else that of the last group, and 0 where there is none; and the offset of the field
-- that is bad.
pub record SliceScan (G : Type 0) : Type 0 where
  pub groups : List (Group G)
  pub upto : ℕ
  pub bad : Option ℕ

-- the observations of the settled steps, up to the first that breaks a rule
abbrev pub settled_run : {O G : Type 0} → Watch O G → ℕ → List (Group G) → List O
settled_run m upto groups = run_alone m (start m) (items_by_step m.count 0 upto groups)

-- A field that is bad, by its offset; or a step that breaks a rule, by its index.
pub data SliceRefusal : Type 0 where
  BadField : ℕ → SliceRefusal
  BreaksAt : ℕ → SliceRefusal

-- Of the settled steps the first that breaks a rule comes before the field that is bad.
abbrev pub slice_bad : {O G : Type 0} → Watch O G → SliceScan G → Option SliceRefusal
slice_bad m s =
    if nat_lt (length (settled_run m s.upto s.groups)) s.upto
    then Some (BreaksAt (length (settled_run m s.upto s.groups)))
    else option_map BadField s.bad
