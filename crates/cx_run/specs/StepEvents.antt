-- The events of one step, as what is due to it tells them.
use Rattle.std.specs.Prelude.{ℕ, ◌==◌, ◌&&◌, ◌||◌, not, Bool, false, List, [], ◌∷◌, ◌++◌, map, filter, Option, None}
use Rattle.std.specs.Prelude.{Some}
use Rattle.std.specs.Prelude.{if◌then◌else◌}
use Rattle.cx_csr.specs.declared.lines.Lines as lines
use Rattle.cx_log.specs.Recording.{Mark, Dma, Lines, Value, Recorded}
use Rattle.cx_machine.specs.Due.{Due}
use Rattle.cx_machine.specs.Transfers.{Transfer}
use Rattle.cx_run.specs.Window.{is_mark}

-- the events of a step, with its mark or without
abbrev pub at_step : Bool → ℕ → List Recorded → List Recorded
at_step marks n events = filter (λ r. r.step == n && (marks || not (is_mark r.event))) events

-- a mark stands at the step
abbrev pub has_mark : ℕ → List Recorded → Bool
has_mark n [] = false
has_mark n (r ∷ events) = (r.step == n && is_mark r.event) || has_mark n events

abbrev pub mark_events : ℕ → Bool → List Recorded
mark_events n marked = if marked then record { step = n; event = Mark } ∷ [] else []

abbrev pub transfer_events : ℕ → List Transfer → List Recorded
transfer_events n transfers = map (λ t. record { step = n; event = Dma t }) transfers

abbrev pub line_events : ℕ → Option lines.Lines → List Recorded
line_events n None = []
line_events n (Some set) = record { step = n; event = Lines set } ∷ []

abbrev pub value_events : ℕ → Option ℕ → List Recorded
value_events n None = []
value_events n (Some v) = record { step = n; event = Value v } ∷ []

-- In the order in which they stand in a recording: the mark, transfers, lines, the value.
abbrev pub step_events : ℕ → Bool → Due → List Recorded
step_events n marked due =
    mark_events n marked ++ (transfer_events n due.transfers ++ (line_events n due.lines ++ value_events n due.value))
