-- What records hand to a step, one behind another.
use Rattle.std.specs.Prelude.{ℕ, List, [], ◌∷◌, ◌++◌, Option, None, Some, unwrap_or, if◌then◌else◌}
use Rattle.cx_log.specs.Recording.{Event, Mark, Dma, Lines, Value, Recorded}
use Rattle.cx_log.specs.Records.{Entry, Put, Ends}
use Rattle.cx_machine.specs.Due.{Due}
use Rattle.cx_run.specs.Window.{is_mark}

-- An event more, behind those that are due already.
abbrev pub handed : Event → Due → Due
handed Mark due = due
handed (Dma t) due = record due { transfers = due.transfers ++ t ∷ [] }
handed (Lines lines) due = record due { lines = Some (unwrap_or due.lines lines) }
handed (Value v) due = record due { value = Some (unwrap_or due.value v) }

abbrev pub handed_by : Entry → Due → Due
handed_by (Put r) due = handed r.event due
handed_by (Ends end) due = due

-- the step of the last mark, once a record more came
abbrev pub marked_by_record : Recorded → Option ℕ → Option ℕ
marked_by_record r marked = if is_mark r.event then Some r.step else marked

abbrev pub marked_by : Entry → Option ℕ → Option ℕ
marked_by (Put r) marked = marked_by_record r marked
marked_by (Ends end) marked = marked

-- the step of the last mark among records, behind one before them
abbrev pub last_mark_behind : Option ℕ → List Recorded → Option ℕ
last_mark_behind marked [] = marked
last_mark_behind marked (r ∷ events) = last_mark_behind (marked_by_record r marked) events

abbrev pub last_mark : List Recorded → Option ℕ
last_mark events = last_mark_behind None events
