-- A call slice that is read one record ahead of its steps.
use Rattle.std.specs.Prelude.{◌≡◌, ℕ, suc, ◌≤◌, ◌<◌, ◌-◌, ◌^◌, ◌==◌, nat_le, Bool, false, List, [], ◌++◌}
use Rattle.std.specs.Prelude.{Option, None, Some, IsTrue, unwrap_or, if◌then◌else◌}
use Rattle.cx_codec.specs.Place.{Place, end_of}
use Rattle.cx_codec.specs.Reads.{over, place_in}
use Rattle.cx_map.specs.Bytes.{AreBytes}
use Rattle.cx_slicefmt.specs.Rules.{Head}
use Rattle.cx_placing.specs.Placing.{Placed}
use Rattle.cx_placing.specs.Records.{Async, Calls, Record, Value, What}
use Rattle.cx_callfmt.specs.Engine.{CallReading, NoneLeft}
use Rattle.cx_callfmt.specs.Rules.{CallEntry, EndsAt, IsWhat, RecordOf, behind_record, rank}
use Rattle.cx_callfmt.specs.Scan.{CallScan, call_ends, scan_records, with_record}
use Rattle.cx_call_alone.specs.Placed.{RecordsBelow, placed_of}
use Rattle.cx_call_alone.specs.Standing.{head_held}
use Rattle.cx_call_alone.specs.Stepping.{RisesIn, placed_held}
use Rattle.cx_call_alone.specs.declared.items.StepItems.{StepItems}
use Rattle.cx_call_alone.specs.declared.items.Told.{Told}
use Rattle.cx_call_alone.specs.declared.items.Told.TheVariants as told

-- ---- as code holds them

abbrev pub what_held : Told → What
what_held (told.Items h) = Async (head_held h)
what_held (told.Value word) = Value word
what_held (told.Call c) = Calls c.number (head_held c.head)

abbrev pub record_held : ℕ → Told → Record
record_held index t = record { index = index; what = what_held t }

abbrev pub step_held : StepItems → Placed ℕ
step_held step = placed_held step.items step.given step.call

-- a record that waits, or the end, where the count is known
abbrev pub entry_held : ℕ → Option Told → CallEntry
entry_held upto None = EndsAt upto
entry_held upto (Some t) = RecordOf (record_held upto t)

-- where a reader stands in an input that begins with the bytes given so far
abbrev pub place_called : CallReading → List ℕ → List ℕ → Place
place_called r given input = place_in (over r.input None given) input

-- ---- what is ahead

-- The scan of what isn't taken yet: of the record that waits, which is one of step upto, and of all behind it. Where
-- none waits the end was read, of so many steps.
abbrev pub untaken_records : ℕ → Option Told → Place → CallScan
untaken_records upto None p = call_ends upto
untaken_records upto (Some t) p =
    with_record (record_held upto t) (scan_records (behind_record (record_held upto t)) p)

-- a head and records in front of those that a scan goes on with
abbrev pub behind_taken : Option Head → List Record → CallScan → CallScan
behind_taken head past s =
    record { head = head; records = past ++ s.records; upto = s.upto; ended = s.ended; bad = s.bad }

abbrev pub IsWhatWaits : Option Told → Type 0
IsWhatWaits None = Unit {0}
IsWhatWaits (Some t) = IsWhat (what_held t)

-- The records of an input are those of steps below a bound, which were taken, and those that aren't. The input ends at
-- an offset, and nothing is left of it once the end was read.
pub record AreTaken (whole : CallScan) (end bound upto : ℕ) (waiting : Option Told) (p : Place)
    (left : Option (List ℕ)) : Type 0 where
  pub head : Option Head
  pub past : List Record
  pub parts : whole ≡ behind_taken head past (untaken_records upto waiting p)
  pub below : RecordsBelow bound past
  pub what : IsWhatWaits waiting
  pub most : upto ≤ 2 ^ 48
  pub bytes : AreBytes p.ahead
  pub ends : end ≡ end_of p
  pub spent : waiting ≡ None → unwrap_or left [] ≡ []

-- All records of the steps below the next one were taken, and no other.
pub record IsAheadCalls (whole : CallScan) (end at upto : ℕ) (waiting : Option Told) (p : Place)
    (left : Option (List ℕ)) : Type 0 where
  pub taken : AreTaken whole end at upto waiting p left
  pub within : at ≤ upto

-- How many records of a step may wait yet.
abbrev pub left_at : ℕ → ℕ → Option Told → ℕ
left_at at upto None = 0
left_at at upto (Some t) = if upto == at then 3 - rank (what_held t) else 0

-- Of the next step some records were taken, which tell this of it, and so many are left at most.
pub record IsMidway (whole : CallScan) (end at most : ℕ) (step : StepItems) (upto : ℕ) (waiting : Option Told)
    (p : Place) (left : Option (List ℕ)) : Type 0 where
  pub taken : AreTaken whole end (suc at) upto waiting p left
  pub within : at ≤ upto
  pub tells : placed_of 32 at taken.past ≡ step_held step
  pub rises : RisesIn step.call
  pub few : left_at at upto waiting ≤ most
  pub above : waiting ≡ None → at < upto

-- What a reader has to be to go on, where a record waits: the next one may stand behind it.
abbrev pub GoesOnCalls : ℕ → Option Told → CallReading → Type 0
GoesOnCalls upto None r = Unit {0}
GoesOnCalls upto (Some t) r = IsTrue r.input.live × (r.ended ≡ None) × NoneLeft r.pending
    × (r.behind ≡ behind_record (record_held upto t))

-- The end was read, and no step of an index is before it.
abbrev pub is_over : ℕ → ℕ → Option Told → Bool
is_over at upto None = nat_le upto at
is_over at upto (Some t) = false
