-- What was due to the steps of a run, as it is kept of those to which something was.
use Rattle.std.specs.Prelude.{◌≡◌, ℕ, ◌+◌, ◌<◌, ◌≤◌, ◌==◌, ◌&&◌, nat_le, nat_lt, Bool, List, [], ◌∷◌, ◌++◌, length}
use Rattle.std.specs.Prelude.{slice_get, Option, None, Some, is_none, if◌then◌else◌}
use Rattle.std.specs.List.{list_any}
use Rattle.cx_log.specs.Recording.{Recorded}
use Rattle.cx_machine.specs.Due.{Due, nothing_due}
use Rattle.cx_machine.specs.Transfers.{Transfer}
use Rattle.cx_run.specs.Due.{due_at}

-- a step, and what is due to it
pub record Noted : Type 0 where
  pub step : ℕ
  pub due : Due

-- nothing is handed to a step
abbrev pub is_nothing : Due → Bool
is_nothing due = length due.transfers == 0 && is_none due.lines && is_none due.value

-- the notes, once this was due to a step
abbrev pub noted : ℕ → Due → List Noted → List Noted
noted step due notes = if is_nothing due then notes else notes ++ record { step = step; due = due } ∷ []

-- a transfer writes the byte at a place
abbrev pub covers_byte : ℕ → Transfer → Bool
covers_byte place t = nat_le t.place place && nat_lt place (t.place + length t.bytes)

-- one of these transfers does
abbrev pub covers : List Transfer → ℕ → Bool
covers transfers place = list_any (covers_byte place) transfers

-- what is due to a step by a note that may be there: nothing where it is of another step
abbrev pub due_by : ℕ → Option Noted → Due
due_by step None = nothing_due
due_by step (Some note) = if note.step == step then note.due else nothing_due

-- what is due to a step by the note at an index
abbrev pub due_in : List Noted → ℕ → ℕ → Due
due_in notes next step = due_by step (slice_get notes next)

-- the index of the note of a later step, behind that at an index if it is of this step
abbrev pub index_by : ℕ → ℕ → Option Noted → ℕ
index_by next step None = next
index_by next step (Some note) = if note.step == step then next + 1 else next

abbrev pub index_behind : List Noted → ℕ → ℕ → ℕ
index_behind notes next step = index_by next step (slice_get notes next)

-- By these events nothing is due to the steps from one on up to another.
abbrev pub NoneDue : List Recorded → ℕ → ℕ → Type 0
NoneDue events from upto = (n : ℕ) → from ≤ n → n < upto → due_at events n ≡ nothing_due

-- The first note of the steps from one on up to another, with what the events hand to its step.
pub record IsNext (events : List Recorded) (first upto : ℕ) (note : Noted) : Type 0 where
  pub from : first ≤ note.step
  pub below : note.step < upto
  pub none : NoneDue events first note.step
  pub is : note.due ≡ due_at events note.step

-- The notes say what these events hand to the steps from one on up to another.
abbrev pub Hands : List Recorded → ℕ → ℕ → List Noted → Type 0
Hands events from upto [] = NoneDue events from upto
Hands events from upto (note ∷ notes) = IsNext events from upto note × Hands events (note.step + 1) upto notes
