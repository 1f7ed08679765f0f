-- The text of a recording of which no End was put yet.
use Rattle.std.specs.Prelude.{ℕ, Bool, List, [], ◌∷◌, ◌++◌}
use Rattle.cx_log.specs.Order.{at_start, behind_it}
use Rattle.cx_log.specs.declared.order.Behind.{Behind}
use Rattle.cx_log.specs.Recording.{Recorded}
use Rattle.cx_log.specs.Text.{header_of, header_text, pages_text, record_text}
use Rattle.cx_machine.specs.Due.{Due}
use Rattle.cx_machine.specs.Machine.{MachineState}
use Rattle.cx_run.specs.Driven.{events_from, taped}

-- what these events leave behind those before them
abbrev pub behind_all : Behind → List Recorded → Behind
behind_all behind [] = behind
behind_all behind (r ∷ events) = behind_all (behind_it behind r) events

-- the text of these events, behind those before them
abbrev pub events_text : Behind → List Recorded → List ℕ
events_text behind [] = []
events_text behind (r ∷ events) = record_text behind.step r ++ events_text (behind_it behind r) events

-- header, pages, and the events of the steps that were taken
unfoldable pub text_so_far : ℕ → Bool → ℕ → MachineState → List Due → List ℕ
text_so_far version split pages start dues =
    header_text (header_of (taped version split pages start dues))
    ++ (pages_text start.memory pages ++ events_text (at_start 0 start.state) (events_from 0 dues))
