-- The first bad place of an input that should be a recording: a field that is bad, or a step that can't be carried out.
use Rattle.std.specs.Prelude.{ℕ, ◌+◌, ◌-◌, ◌==◌, Bool, List, Option, None, Some, Result, Ok, Err, if◌then◌else◌}
use Rattle.std.specs.Option.{option_map}
use Rattle.cx_codec.specs.Place.{Place}
use Rattle.cx_log.specs.Reading.{Opened, opened_at, start_of}
use Rattle.cx_log.specs.Recording.{Recording}
use Rattle.cx_log.specs.Scan.{Scan, bad_field, decoded, scan_behind}
use Rattle.cx_machine.specs.Step.{Step}
use Rattle.cx_run.specs.Run.{built_steps}

-- A field that is bad, by its offset; or a step that can't be carried out with what the records hand to it.
pub data Refusal : Type 0 where
  Format : ℕ → Refusal
  Broken : ℕ → Refusal

-- How many steps of a recording are carried out; steps gives the step function by the recording's flag.
abbrev pub carried : {Rec : Type 0} → (Bool → Step Rec) → Recording → ℕ
carried steps R = built_steps (steps R.split) R (R.end - R.base)

-- Of the steps that are settled the first that isn't carried out comes before the field that is bad.
abbrev pub refusal : Recording → ℕ → Option ℕ → Option Refusal
refusal R n field = if n == R.end - R.base then option_map Format field else Some (Broken (R.base + n))

abbrev pub bad_behind : {Rec : Type 0} → (Bool → Step Rec) → Opened → Scan → Option Refusal
bad_behind steps o s = refusal (decoded o s) (carried steps (decoded o s)) (bad_field s.stop)

abbrev pub bad_in : {Rec : Type 0} → (Bool → Step Rec) → Result (Opened × Place) ℕ → Option Refusal
bad_in steps (Err o) = Some (Format o)
bad_in steps (Ok x) = bad_behind steps x.0 (scan_behind x.0 x.1)

-- none where the input is the text of an accepted recording
unfoldable pub first_bad : {Rec : Type 0} → (Bool → Step Rec) → List ℕ → Option Refusal
first_bad steps bytes = bad_in steps (opened_at (start_of bytes))

abbrev pub settled_in : {Rec : Type 0} → (Bool → Step Rec) → Result (Opened × Place) ℕ → Option ℕ
settled_in steps (Err o) = None
settled_in steps (Ok x) = Some (x.0.header.base + carried steps (decoded x.0 (scan_behind x.0 x.1)))

-- The step up to which the input's records settle steps that are carried out; none where its header or pages are bad.
unfoldable pub settled : {Rec : Type 0} → (Bool → Step Rec) → List ℕ → Option ℕ
settled steps bytes = settled_in steps (opened_at (start_of bytes))
