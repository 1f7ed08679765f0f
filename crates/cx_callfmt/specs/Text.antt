-- The spelling of call slices.
use Rattle.std.specs.Prelude.{ℕ, ◌-◌, List, [], ◌∷◌, ◌++◌, codes}
use Rattle.std.specs.Int.{w32, to_le_bytes}
use Rattle.cx_codec.specs.Varint.{varint}
use Rattle.cx_slicefmt.specs.Rules.{Head}
use Rattle.cx_slicefmt.specs.Text.{head_text}
use Rattle.cx_placing.specs.Records.{Async, Calls, Record, Value, What}
use Rattle.cx_callfmt.specs.Rules.{CallEntry, EndsAt, RecordOf}

abbrev pub tag : What → ℕ
tag (Calls number head) = 1
tag (Async head) = 2
tag (Value word) = 3

abbrev pub payload : What → List ℕ
payload (Calls number head) = to_le_bytes w32 number ++ head_text head
payload (Async head) = head_text head
payload (Value word) = to_le_bytes w32 word

-- A record: its tag, how far its index is from the last record's, and what it tells.
unfoldable pub record_text : ℕ → Record → List ℕ
record_text before r = (tag r.what ∷ []) ++ (varint (r.index - before) ++ payload r.what)

-- the end: its tag, and how far the number of steps is from the last index
unfoldable pub call_end_text : ℕ → ℕ → List ℕ
call_end_text before count = (0 ∷ []) ++ varint (count - before)

abbrev pub call_entry_text : ℕ → CallEntry → List ℕ
call_entry_text before (RecordOf r) = record_text before r
call_entry_text before (EndsAt count) = call_end_text before count

abbrev pub records_text : ℕ → List Record → List ℕ
records_text before [] = []
records_text before (r ∷ rs) = record_text before r ++ records_text r.index rs

abbrev pub ended_records_text : ℕ → List Record → ℕ → List ℕ
ended_records_text before [] count = call_end_text before count
ended_records_text before (r ∷ rs) count = record_text before r ++ ended_records_text r.index rs count

-- the index of the last of these, or of the one before them
abbrev pub last_index : ℕ → List Record → ℕ
last_index before [] = before
last_index before (r ∷ rs) = last_index r.index rs

-- the four bytes that a call slice begins with
abbrev pub call_magic : List ℕ
call_magic = codes "CXC1"

-- a call slice without its end, and whole: its head, and its records
unfoldable pub call_slice_body : Head → List Record → List ℕ
call_slice_body head rs = call_magic ++ (head_text head ++ records_text 0 rs)

unfoldable pub call_slice_text : Head → List Record → ℕ → List ℕ
call_slice_text head rs count = call_magic ++ (head_text head ++ ended_records_text 0 rs count)
