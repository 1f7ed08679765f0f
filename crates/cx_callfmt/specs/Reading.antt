-- How the records of a call slice are read, field by field.
use Rattle.std.specs.Prelude.{ℕ, zero, suc, ◌+◌, true, false}
use Rattle.cx_codec.specs.Place.{Reader, ◌>>=◌, done}
use Rattle.cx_codec.specs.Fields.{byte_at, word_at, varint_at}
use Rattle.cx_codec.specs.Checks.{checked, close_at, is_between}
use Rattle.cx_slicefmt.specs.Reading.{head_at}
use Rattle.cx_placing.specs.Records.{Async, Calls, Value, What}
use Rattle.cx_callfmt.specs.Rules.{Behind, CallEntry, EndsAt, RecordOf, calls, may_come, may_end}

-- the index of a record of this rank, by its distance from the last one
unfoldable pub record_index_at : Behind → ℕ → Reader ℕ
record_index_at behind place = do
  distance ← checked (λ d. may_come behind place (behind.index + d)) varint_at
  done (behind.index + distance)

-- the number of steps, by its distance from the last index
unfoldable pub count_at : Behind → Reader ℕ
count_at behind = do
  distance ← checked (λ d. may_end behind (behind.index + d)) varint_at
  done (behind.index + distance)

-- the number of a call, and what comes behind it
unfoldable pub call_at : Reader What
call_at = do
  number ← word_at
  head ← head_at calls false
  done (Calls number head)

unfoldable pub async_at : Reader What
async_at = do
  head ← head_at calls true
  done (Async head)

unfoldable pub value_at : Reader What
value_at = do
  word ← word_at
  done (Value word)

-- what a record of this rank tells, at its index
unfoldable pub told_at : Behind → ℕ → Reader What → Reader CallEntry
told_at behind place what = do
  index ← record_index_at behind place
  told ← what
  done (RecordOf (record { index = index; what = told }))

abbrev pub record_by : Behind → ℕ → Reader CallEntry
record_by behind zero = do
  count ← count_at behind
  done (EndsAt count)
record_by behind (suc zero) = told_at behind 2 call_at
record_by behind (suc (suc zero)) = told_at behind 0 async_at
record_by behind (suc (suc (suc n))) = told_at behind 1 value_at

-- a record or the end
unfoldable pub record_at : Behind → Reader CallEntry
record_at behind = do
  tag ← checked (is_between 0 3) byte_at
  record_by behind tag

-- nothing may follow the end
abbrev pub closed_call : CallEntry → Reader CallEntry
closed_call (RecordOf r) = done (RecordOf r)
closed_call (EndsAt count) = do
  nothing ← close_at
  done (EndsAt count)

unfoldable pub next_record_at : Behind → Reader CallEntry
next_record_at behind = do
  entry ← record_at behind
  closed_call entry
