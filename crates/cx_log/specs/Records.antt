-- How a record is read, field by field, behind the records before it.
use Rattle.std.specs.Prelude.{ℕ, ◌+◌, ◌-◌, nat_le, nat_lt, ◌==◌, ◌&&◌, ◌||◌, not, Bool, min, slice_index_or}
use Rattle.std.specs.Int.RustNames.{bit_and}
use Rattle.cx_map.specs.Map.{size_of_pages}
use Rattle.cx_map.specs.declared.TheConstants.{PAGE_SIZE, RAM_START}
use Rattle.cx_csr.specs.declared.interrupts.TheConstants.{LINE_INTERRUPTS}
use Rattle.cx_csr.specs.declared.lines.Lines as lines
use Rattle.cx_codec.specs.Place.{Reader, ◌>>=◌, done}
use Rattle.cx_codec.specs.Fields.{bytes_at, byte_at, word_at, varint_at}
use Rattle.cx_log.specs.declared.limits.TheConstants.{STEP_LIMIT}
use Rattle.cx_log.specs.declared.kind.Kind.{Kind}
use Rattle.cx_log.specs.declared.kind.Kind.TheVariants as kind
use Rattle.cx_codec.specs.Checks.{checked}
use Rattle.cx_log.specs.Fields.{varint_between}
use Rattle.cx_log.specs.Kind.{kinds, rank_of}
use Rattle.cx_log.specs.Order.{Behind}
use Rattle.cx_log.specs.Recording.{Event, Mark, Dma, Lines, Value, Recorded}

-- a record, or the step of End
pub data Entry : Type 0 where
  Put : Recorded → Entry
  Ends : ℕ → Entry

-- A mark stands where the next one has to, any other record below that. End may stand there too.
abbrev pub marks_well : ℕ → ℕ → Kind → Bool
marks_well mark step kind.Mark = step == mark
marks_well mark step kind.End = nat_le step mark
marks_well mark step _ = nat_lt step mark

-- End comes at a later step than the last record, any other at a later one or at the same in order.
abbrev pub goes_on : Behind → ℕ → Kind → Bool
goes_on behind step kind.End = nat_lt behind.step step
goes_on behind step k = nat_lt behind.step step || (behind.step == step && nat_le behind.least (rank_of k))

abbrev pub is_small : ℕ → Kind → Bool
is_small step kind.End = nat_le step STEP_LIMIT
is_small step _ = nat_lt step STEP_LIMIT

-- A record of this kind may stand at a step, by what stands before it.
abbrev pub may_stand : Behind → Kind → ℕ → Bool
may_stand behind k step = is_small step k && (goes_on behind step k && marks_well behind.mark step k)

-- the tag that a record begins with
unfoldable pub kind_at : Reader Kind
kind_at = do
  tag ← checked (λ t. nat_lt t 5) byte_at
  done (slice_index_or kinds tag kind.End)

-- a record's step, told by how far it is from the last one
unfoldable pub step_at : Behind → Kind → Reader ℕ
step_at behind k = do
  distance ← checked (λ d. may_stand behind k (behind.step + d)) varint_at
  done (behind.step + distance)

-- what a device writes to RAM of so many pages
unfoldable pub dma_at : ℕ → Reader Event
dma_at pages = do
  place ← checked (λ w. nat_le RAM_START w && nat_lt w (RAM_START + size_of_pages pages)) word_at
  size ← varint_between 1 (min PAGE_SIZE (RAM_START + size_of_pages pages - place))
  bytes ← bytes_at size
  done (Dma (record { place = place; bytes = bytes }))

-- lines that the hart has, other than those that stand
unfoldable pub lines_at : lines.Lines → Reader Event
lines_at standing = do
  mask ← checked (λ w. bit_and w LINE_INTERRUPTS == w && not (w == standing.0)) word_at
  done (Lines (record { 0 = mask }))

-- the value that the step asks for
unfoldable pub asked_value_at : Reader Event
asked_value_at = do
  word ← word_at
  done (Value word)

-- an event's record at a step
abbrev pub put_at : ℕ → Reader Event → Reader Entry
put_at step field = do
  event ← field
  done (Put (record { step = step; event = event }))

-- what a record of this kind at this step comes to, by what stands behind its distance
abbrev pub entry_at : ℕ → Behind → ℕ → Kind → Reader Entry
entry_at pages behind step kind.End = done (Ends step)
entry_at pages behind step kind.Dma = put_at step (dma_at pages)
entry_at pages behind step kind.Lines = put_at step (lines_at behind.lines)
entry_at pages behind step kind.Value = put_at step asked_value_at
entry_at pages behind step kind.Mark = put_at step (done Mark)

-- The next record: a tag, a distance, and what its kind holds.
unfoldable pub record_at : ℕ → Behind → Reader Entry
record_at pages behind = do
  k ← kind_at
  step ← step_at behind k
  entry_at pages behind step k
