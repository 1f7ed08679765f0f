-- What an input that should be a call slice settles, and its first bad place.
use Rattle.std.specs.Prelude.{ℕ, nat_lt, ◌&&◌, Bool, not, List, length, Option, Some, unwrap_or, option_map}
use Rattle.std.specs.Prelude.{if◌then◌else◌}
use Rattle.cx_callfmt.specs.Scan.{CallScan}
use Rattle.cx_placing.specs.Called.{CallStanding, handed}
use Rattle.cx_placing.specs.CallsAlone.{ends_settled, ran_called}
use Rattle.cx_placing.specs.Placing.{CallSlice, no_head}
use Rattle.cx_slices.specs.Items.{start}
use Rattle.cx_slices.specs.Observed.{Watch}
use Rattle.cx_slices.specs.Settled.{BadField, BreaksAt, SliceRefusal}
use Rattle.cx_call_alone.specs.Placed.{placed_between}

-- what stands once the start is handed its head
abbrev pub started : {O : Type 0} → Watch O ℕ → CallScan → CallStanding
started m s = handed (unwrap_or s.head (no_head m.count)) (start m)

-- the observations of so many of the first steps, up to the first that breaks a rule
abbrev pub ran_upto : {O : Type 0} → Watch O ℕ → (O → Option ℕ) → CallScan → ℕ → List O
ran_upto m called s n = ran_called m called (started m s) (placed_between m.count 0 n s.records)

-- those of the settled steps
abbrev pub settled_calls : {O : Type 0} → Watch O ℕ → (O → Option ℕ) → CallScan → List O
settled_calls m called s = ran_upto m called s s.upto

-- Nothing is owed behind the settled steps.
abbrev pub nothing_owed : {O : Type 0} → Watch O ℕ → (O → Option ℕ) → CallScan → Bool
nothing_owed m called s = ends_settled m called (started m s) (placed_between m.count 0 s.upto s.records)

-- Of the settled steps the first that breaks a rule comes before the field that is bad. At the end nothing may be owed.
abbrev pub calls_bad : {O : Type 0} → Watch O ℕ → (O → Option ℕ) → CallScan → Option SliceRefusal
calls_bad m called s =
    if nat_lt (length (settled_calls m called s)) s.upto
    then Some (BreaksAt (length (settled_calls m called s)))
    else if s.ended && not (nothing_owed m called s)
    then Some (BreaksAt s.upto)
    else option_map BadField s.bad

-- the slice that the settled steps are, whose items are so many words or none, and bytes
abbrev pub slice_scanned : ℕ → CallScan → CallSlice ℕ
slice_scanned count s =
    record { head = unwrap_or s.head (no_head count); steps = placed_between count 0 s.upto s.records }
