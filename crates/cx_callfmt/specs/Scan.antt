-- What an input that should be a call slice holds, up to its end or to the first bad field.
use Rattle.std.specs.Prelude.{◌≡◌, ℕ, zero, suc, ◌≤◌, ◌^◌, Bool, true, false, List, [], ◌∷◌, ◌++◌, length, Option, None, Some}
use Rattle.std.specs.Prelude.{Result, Ok, Err}
use Rattle.cx_codec.specs.Checks.{close_at}
use Rattle.cx_codec.specs.Place.{Place, Takes}
use Rattle.cx_slicefmt.specs.Reading.{head_at}
use Rattle.cx_slicefmt.specs.Rules.{Head, IsHead}
use Rattle.cx_placing.specs.Records.{Record}
use Rattle.cx_callfmt.specs.Reading.{record_at}
use Rattle.cx_callfmt.specs.Rules.{AreRecords, Behind, CallEntry, EndsAt, RecordOf, behind_record, behind_start, calls}
use Rattle.cx_callfmt.specs.Text.{call_magic, call_slice_text, ended_records_text}

-- What was read whole: the start's head, and the records; the index below which all steps are settled, which is the
-- count where the end was read, else that of the last record, and 0 where there is none; whether the end was read; and
-- the offset of the field that is bad.
pub record CallScan : Type 0 where
  pub head : Option Head
  pub records : List Record
  pub upto : ℕ
  pub ended : Bool
  pub bad : Option ℕ

abbrev pub with_head : Head → CallScan → CallScan
with_head h rest =
    record { head = Some h; records = rest.records; upto = rest.upto; ended = rest.ended; bad = rest.bad }

abbrev pub with_record : Record → CallScan → CallScan
with_record r rest =
    record { head = rest.head; records = r ∷ rest.records; upto = rest.upto; ended = rest.ended; bad = rest.bad }

-- a field is bad behind a record
abbrev pub call_stops : Behind → ℕ → CallScan
call_stops behind o = record { head = None; records = []; upto = behind.index; ended = false; bad = Some o }

abbrev pub call_ends : ℕ → CallScan
call_ends count = record { head = None; records = []; upto = count; ended = true; bad = None }

abbrev pub call_whole : List Record → ℕ → CallScan
call_whole rs count = record { head = None; records = rs; upto = count; ended = true; bad = None }

-- An end settles its count where nothing follows it.
abbrev pub by_call_end : Behind → ℕ → Result (Unit {0} × Place) ℕ → CallScan
by_call_end behind count (Ok x) = call_ends count
by_call_end behind count (Err o) = call_stops behind o

abbrev pub by_call_entry : (Behind → Place → CallScan) → Behind → Place → CallEntry → CallScan
by_call_entry rest behind q (RecordOf r) = with_record r (rest (behind_record r) q)
by_call_entry rest behind q (EndsAt count) = by_call_end behind count (close_at q)

-- What an entry comes to, where rest scans what is behind it. One that doesn't decode settles nothing.
abbrev pub call_scan_by : (Behind → Place → CallScan) → Behind → Result (CallEntry × Place) ℕ → CallScan
call_scan_by rest behind (Err o) = call_stops behind o
call_scan_by rest behind (Ok x) = by_call_entry rest behind x.1 x.0

-- at most so many entries
abbrev pub records_within : ℕ → Behind → Place → CallScan
records_within zero behind p = call_stops behind p.at
records_within (suc most) behind p = call_scan_by (records_within most) behind (record_at behind p)

-- All of them: each takes a byte at least.
unfoldable pub scan_records : Behind → Place → CallScan
scan_records behind p = records_within (suc (length p.ahead)) behind p

-- a head, and what is behind it
abbrev pub scan_behind_head : Result (Head × Place) ℕ → CallScan
scan_behind_head (Err o) = call_stops behind_start o
scan_behind_head (Ok x) = with_head x.0 (scan_records behind_start x.1)

-- where a call slice stands behind its magic
abbrev pub behind_call_magic : List ℕ → Place
behind_call_magic bytes = record { at = 4; limit = 2 ^ 60; ahead = bytes }

-- a call slice, of the bytes behind its magic
unfoldable pub call_scan : List ℕ → CallScan
call_scan bytes = scan_behind_head (head_at calls false (behind_call_magic bytes))

-- ---- what records and an end are scanned as

-- by what follows the end
abbrev pub call_scan_of : Behind → List Record → ℕ → Result (Unit {0} × Place) ℕ → CallScan
call_scan_of behind [] count r = by_call_end behind count r
call_scan_of behind (g ∷ gs) count r = with_record g (call_scan_of (behind_record g) gs count r)

-- A scan that found no bad field is of records that can be spelled, whose text stands there, with nothing behind it.
pub record IsWholeCallScan (behind : Behind) (p : Place) (s : CallScan) : Type 0 where
  pub after : Place
  pub ended : s.ended ≡ true
  pub spelled : AreRecords behind s.records s.upto
  pub takes : Takes p (ended_records_text behind.index s.records s.upto) after
  pub none : after.ahead ≡ []

-- The indices rise, where one index may have several records, and the last is settled.
abbrev pub RecordsRise : ℕ → List Record → Type 0
RecordsRise least [] = Unit {0}
RecordsRise least (r ∷ rs) = (least ≤ r.index) × RecordsRise r.index rs

-- What was scanned with no bad field is a slice, and the input is its text.
pub record IsCallText (bytes : List ℕ) (s : CallScan) : Type 0 where
  pub head : Head
  pub there : s.head ≡ Some head
  pub is : IsHead calls head
  pub ended : s.ended ≡ true
  pub spelled : AreRecords behind_start s.records s.upto
  pub text : call_slice_text head s.records s.upto ≡ call_magic ++ bytes

-- Two slices are the same, and nothing follows the text of the first.
pub record IsSameSlice (h k : Head) (rs ss : List Record) (m n : ℕ) (more : List ℕ) : Type 0 where
  pub head : h ≡ k
  pub records : rs ≡ ss
  pub counts : m ≡ n
  pub none : more ≡ []
