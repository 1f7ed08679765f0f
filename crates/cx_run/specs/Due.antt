-- What the events of a recording hand to a step.
use Rattle.std.specs.Prelude.{ℕ, ◌==◌, List, [], ◌∷◌, Some, if◌then◌else◌}
use Rattle.cx_log.specs.Recording.{Event, Mark, Dma, Lines, Value, Recorded}
use Rattle.cx_machine.specs.Due.{Due, nothing_due}

abbrev pub with_event : Event → Due → Due
with_event Mark due = due
with_event (Dma t) due = record due { transfers = t ∷ due.transfers }
with_event (Lines set) due = record due { lines = Some set }
with_event (Value v) due = record due { value = Some v }

-- the events of a step among those of a recording
abbrev pub due_at : List Recorded → ℕ → Due
due_at [] step = nothing_due
due_at (r ∷ events) step = if r.step == step then with_event r.event (due_at events step) else due_at events step
