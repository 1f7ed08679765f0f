-- Records in two parts: what stands up to the number of runs, and the bytes of the runs behind it.
use Rattle.std.specs.Prelude.{ℕ, zero, suc, ◌^◌, ◌&&◌, Bool, true, false, List, Option, is_none, if◌then◌else◌}
use Rattle.std.specs.List.{list_all}
use Rattle.cx_codec.specs.Checks.{checked, is_between}
use Rattle.cx_codec.specs.Fields.{byte_at, varint_at, word_at}
use Rattle.cx_codec.specs.Place.{Reader, ◌>>=◌, done}
use Rattle.cx_slicefmt.specs.Reading.{masked_at}
use Rattle.cx_slicefmt.specs.Rules.{Head}
use Rattle.cx_placing.specs.Records.{Async, Calls, Value}
use Rattle.cx_callfmt.specs.Handing.{before_runs, rest_at}
use Rattle.cx_callfmt.specs.Reading.{count_at, record_index_at}
use Rattle.cx_callfmt.specs.Rules.{Behind, CallEntry, EndsAt, RecordOf, calls}

-- the words of a head, and how many runs its bytes stand in
pub record HeadBegun : Type 0 where
  pub words : List (Option ℕ)
  pub runs : ℕ

unfoldable pub head_begun_at : Bool → Reader HeadBegun
head_begun_at needed = do
  words ← masked_at
  runs ← checked (is_between (if needed && list_all is_none words then 1 else 0) calls.runs) varint_at
  done (record { words = words; runs = runs })

-- the head, behind what it begins with
abbrev pub head_behind : HeadBegun → Reader Head
head_behind b = do
  bytes ← rest_at (2 ^ 32) (before_runs b.runs)
  done (record { words = b.words; bytes = bytes })

pub data Begun : Type 0 where
  BegunItems : ℕ → HeadBegun → Begun
  BegunValue : ℕ → ℕ → Begun
  BegunCall : ℕ → ℕ → HeadBegun → Begun
  BegunEnd : ℕ → Begun

unfoldable pub items_begun_at : Behind → Reader Begun
items_begun_at behind = do
  index ← record_index_at behind 0
  head ← head_begun_at true
  done (BegunItems index head)

unfoldable pub value_begun_at : Behind → Reader Begun
value_begun_at behind = do
  index ← record_index_at behind 1
  word ← word_at
  done (BegunValue index word)

unfoldable pub call_begun_at : Behind → Reader Begun
call_begun_at behind = do
  index ← record_index_at behind 2
  number ← word_at
  head ← head_begun_at false
  done (BegunCall index number head)

unfoldable pub end_begun_at : Behind → Reader Begun
end_begun_at behind = do
  count ← count_at behind
  done (BegunEnd count)

abbrev pub begun_by : Behind → ℕ → Reader Begun
begun_by behind zero = end_begun_at behind
begun_by behind (suc zero) = call_begun_at behind
begun_by behind (suc (suc zero)) = items_begun_at behind
begun_by behind (suc (suc (suc n))) = value_begun_at behind

unfoldable pub begun_at : Behind → Reader Begun
begun_at behind = do
  tag ← checked (is_between 0 3) byte_at
  begun_by behind tag

-- the record or the end, behind what it begins with
abbrev pub begun_behind : Begun → Reader CallEntry
begun_behind (BegunItems index b) = do
  head ← head_behind b
  done (RecordOf (record { index = index; what = Async head }))
begun_behind (BegunValue index word) = done (RecordOf (record { index = index; what = Value word }))
begun_behind (BegunCall index number b) = do
  head ← head_behind b
  done (RecordOf (record { index = index; what = Calls number head }))
begun_behind (BegunEnd count) = done (EndsAt count)
