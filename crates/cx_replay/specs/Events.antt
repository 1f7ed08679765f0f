-- Events that are kept, to be written or read again.
use Rattle.std.specs.Prelude.{ℕ, List, [], ◌∷◌}
use Rattle.cx_log.specs.Item.{dma_event, lines_event, value_event}
use Rattle.cx_log.specs.Recording.{Dma, Event, Mark, Recorded}
use Rattle.cx_log.specs.declared.item.Item.{Item}
use Rattle.cx_log.specs.declared.item.What.{What}
use Rattle.cx_log.specs.declared.item.What.TheVariants as what

-- the event of an item other than End, where a Dma has these bytes
abbrev pub event_of : List ℕ → What → Event
event_of bytes (what.Dma place) = dma_event bytes place
event_of bytes (what.Lines set) = lines_event set
event_of bytes (what.Value v) = value_event v
event_of bytes _ = Mark

abbrev pub recorded_of : List ℕ → Item → Recorded
recorded_of bytes item = record { step = item.step; event = event_of bytes item.what }

-- the bytes of an event that has some
abbrev pub bytes_of : Event → List ℕ
bytes_of (Dma t) = t.bytes
bytes_of _ = []

-- the bytes of the last of some events, behind others with these bytes
abbrev pub last_bytes_behind : List ℕ → List Recorded → List ℕ
last_bytes_behind bytes [] = bytes
last_bytes_behind bytes (r ∷ events) = last_bytes_behind (bytes_of r.event) events

abbrev pub last_bytes : List Recorded → List ℕ
last_bytes events = last_bytes_behind [] events
