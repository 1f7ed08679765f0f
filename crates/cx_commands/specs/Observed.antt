-- What the steps of a recording show of a program: the observations of a root, which is the root of its page tables as
-- `satp` holds it.
use Rattle.std.specs.Prelude.{ℕ, suc, Bool, true, false, List, [], ◌∷◌, ◌++◌, filter_map, Result, Ok, Err}
use Rattle.cx_codec.specs.Place.{Place}
use Rattle.cx_hart.specs.declared.record.StepRec.{StepRec}
use Rattle.cx_log.specs.Reading.{Opened, opened_at, start_of}
use Rattle.cx_log.specs.Scan.{Scan, scan_behind}
use Rattle.cx_observe.specs.Observation.{observation_of}
use Rattle.cx_observe.specs.declared.obs.Obs.{Obs}
use Rattle.cx_print.specs.Lines.{obs_line}
use Rattle.cx_commands.specs.Streaming.{settled_steps}

-- what some steps show of the program of a root, in their order
abbrev pub observations_in : ℕ → List StepRec → List Obs
observations_in root records = filter_map (λ rec. observation_of rec root) records

-- the observations of a root in the steps that the records of an input settle
abbrev pub observed_by : ℕ → Opened → Scan → List Obs
observed_by root o s = observations_in root (settled_steps o s)

abbrev pub has_observation : List Obs → Bool
has_observation [] = false
has_observation (o ∷ os) = true

-- a root occurs in steps of which one at least shows something of it
abbrev pub occurs_in : ℕ → List StepRec → Bool
occurs_in root records = has_observation (observations_in root records)

abbrev pub observed_in : ℕ → Result (Opened × Place) ℕ → List Obs
observed_in root (Err o) = []
observed_in root (Ok x) = observed_by root x.0 (scan_behind x.0 x.1)

-- the observations of a root in an input; none where its header or its pages are bad
unfoldable pub observed_of : ℕ → List ℕ → List Obs
observed_of root bytes = observed_in root (opened_at (start_of bytes))

-- the lines of observations, from an index on
abbrev pub observation_lines : ℕ → List Obs → List ℕ
observation_lines index [] = []
observation_lines index (o ∷ os) = obs_line index o ++ observation_lines (suc index) os
