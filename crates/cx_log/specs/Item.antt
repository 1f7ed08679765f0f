-- Records as items: a step, and what comes before it. The bytes of a Dma stand beside the item.
use Rattle.std.specs.Prelude.{ℕ, List, [], Bool, true, false}
use Rattle.cx_csr.specs.declared.lines.Lines as lines
use Rattle.cx_machine.specs.Transfers.{IsTransfer}
use Rattle.cx_map.specs.Map.{size_of_pages}
use Rattle.cx_log.specs.declared.item.Item.{Item}
use Rattle.cx_log.specs.declared.item.What.{What}
use Rattle.cx_log.specs.declared.item.What.TheVariants as what
use Rattle.cx_log.specs.declared.kind.Kind.{Kind}
use Rattle.cx_log.specs.declared.kind.Kind.TheVariants as kind
use Rattle.cx_log.specs.Order.{Behind, MayEnd, MayFollow, HoldsWell, behind_it}
use Rattle.cx_log.specs.Recording.{Event, Mark, Dma, Lines, Value}
use Rattle.cx_log.specs.Records.{Entry, Put, Ends}
use Rattle.cx_log.specs.Text.{payload, record_text, end_text}

abbrev pub kind_of_what : What → Kind
kind_of_what (what.Dma place) = kind.Dma
kind_of_what (what.Lines lines) = kind.Lines
kind_of_what (what.Value v) = kind.Value
kind_of_what what.Mark = kind.Mark
kind_of_what what.End = kind.End

-- the events that hold something
abbrev pub dma_event : List ℕ → ℕ → Event
dma_event bytes place = Dma (record { place = place; bytes = bytes })

abbrev pub lines_event : lines.Lines → Event
lines_event lines = Lines lines

abbrev pub value_event : ℕ → Event
value_event v = Value v

-- the record that an item is, where a Dma has these bytes
abbrev pub put_event : ℕ → Event → Entry
put_event step event = Put (record { step = step; event = event })

abbrev pub entry_with : List ℕ → ℕ → What → Entry
entry_with bytes step (what.Dma place) = put_event step (dma_event bytes place)
entry_with bytes step (what.Lines lines) = put_event step (lines_event lines)
entry_with bytes step (what.Value v) = put_event step (value_event v)
entry_with bytes step what.Mark = put_event step Mark
entry_with bytes step what.End = Ends step

abbrev pub entry_of : List ℕ → Item → Entry
entry_of bytes item = entry_with bytes item.step item.what

-- a place to which these bytes can go, in RAM of so many pages
abbrev pub IsDma : ℕ → List ℕ → ℕ → Type 0
IsDma pages bytes place = IsTransfer (size_of_pages pages) (record { place = place; bytes = bytes })

-- what its event may hold, behind lines that stand; End holds nothing
abbrev pub HoldsItem : ℕ → lines.Lines → List ℕ → What → Type 0
HoldsItem pages standing bytes (what.Dma place) = HoldsWell pages standing (dma_event bytes place)
HoldsItem pages standing bytes (what.Lines lines) = HoldsWell pages standing (lines_event lines)
HoldsItem pages standing bytes (what.Value v) = HoldsWell pages standing (value_event v)
HoldsItem pages standing bytes what.Mark = Unit {0}
HoldsItem pages standing bytes what.End = Unit {0}

-- It may stand behind the records so far, in a recording with so many pages of RAM.
abbrev pub MayStand : ℕ → Behind → Entry → Type 0
MayStand pages behind (Put r) = MayFollow pages behind r
MayStand pages behind (Ends end) = MayEnd behind end

-- what it leaves
abbrev pub behind_entry : Behind → Entry → Behind
behind_entry behind (Put r) = behind_it behind r
behind_entry behind (Ends end) = behind

-- its text, behind a record at a step before
abbrev pub entry_text : ℕ → Entry → List ℕ
entry_text before (Put r) = record_text before r
entry_text before (Ends end) = end_text before end

-- what stands behind its distance; the bytes of a Dma stand beside the item
abbrev pub payload_of : What → List ℕ
payload_of (what.Lines lines) = payload (lines_event lines)
payload_of (what.Value v) = payload (value_event v)
payload_of _ = []

-- whether it is End
abbrev pub is_end : What → Bool
is_end what.End = true
is_end _ = false
