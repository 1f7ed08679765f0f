-- What `process` does: the slice of the program that runs over a root.
use Rattle.std.specs.Prelude.{ℕ, List, length}
use Rattle.cx_hart.specs.declared.record.StepRec.{StepRec}
use Rattle.cx_log.specs.Reading.{Opened}
use Rattle.cx_log.specs.Scan.{Scan}
use Rattle.cx_observe.specs.User.{user}
use Rattle.cx_observe.specs.declared.obs.Obs.{Obs}
use Rattle.cx_slicefmt.specs.Text.{slice_body, slice_text}
use Rattle.cx_slices.specs.Groups.{groups_of}
use Rattle.cx_commands.specs.Doing.{Doing}
use Rattle.cx_commands.specs.Observed.{observations_in, observed_by, occurs_in}
use Rattle.cx_commands.specs.Streaming.{sought}

-- the slice of these observations, and what stands of it before the end is known
abbrev pub slice_of : List Obs → List ℕ
slice_of os = slice_text (groups_of user os) (length os)

abbrev pub slice_begun : List Obs → List ℕ
slice_begun os = slice_body (groups_of user os)

-- what is written of the first steps, and of all
abbrev pub process_text : ℕ → Opened → Scan → List StepRec → List ℕ
process_text root o s records = slice_begun (observations_in root records)

abbrev pub process_full : ℕ → Opened → Scan → List ℕ
process_full root o s = slice_of (observed_by root o s)

-- `process`: the slice, and of what is refused what stands of it by the settled steps
abbrev pub slicing : ℕ → Doing
slicing root = sought (occurs_in root) (process_text root) (process_full root)
