-- The roots of page tables that occur in a run, as `satp` holds them, in the order in which they were first seen.
use Rattle.std.specs.Prelude.{ℕ, suc, ◌+◌, ◌==◌, List, [], ◌∷◌, Option, None, Some, is_some, if◌then◌else◌}
use Rattle.cx_hart.specs.declared.record.StepRec.{StepRec}
use Rattle.cx_observe.specs.Observation.{observation_of}
use Rattle.cx_inspect.specs.declared.roots.Tally.{Tally}

-- the root for which a step is chosen: the one that it was taken with, where it shows something of that program
unfoldable pub shown_root : StepRec → Option ℕ
shown_root rec = if is_some (observation_of rec rec.before.csr.satp) then Some rec.before.csr.satp else None

-- one step more for a root: a new one goes last, and one that is there keeps its place and its first step
abbrev pub counted : ℕ → ℕ → List (ℕ × Tally) → List (ℕ × Tally)
counted step root [] = (root, record { steps = 1; first = step }) ∷ []
counted step root (e ∷ es) =
    if root == e.0 then (e.0, record { steps = e.1.steps + 1; first = e.1.first }) ∷ es else e ∷ counted step root es

abbrev pub counted_for : ℕ → Option ℕ → List (ℕ × Tally) → List (ℕ × Tally)
counted_for step None roots = roots
counted_for step (Some root) roots = counted step root roots

-- the roots once a step was taken in
abbrev pub noted : ℕ → StepRec → List (ℕ × Tally) → List (ℕ × Tally)
noted step rec roots = counted_for step (shown_root rec) roots

-- the roots once these steps were taken in, the first of which has this number
abbrev pub roots_on : List (ℕ × Tally) → ℕ → List StepRec → List (ℕ × Tally)
roots_on roots step [] = roots
roots_on roots step (rec ∷ records) = roots_on (noted step rec roots) (suc step) records

-- the roots that occur in these steps
abbrev pub roots_from : ℕ → List StepRec → List (ℕ × Tally)
roots_from step records = roots_on [] step records
