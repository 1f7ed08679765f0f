-- What a reader of call slices holds, and what it says of what it reads.
use Rattle.std.specs.Prelude.{◌≡◌, ℕ, ◌+◌, ◌*◌, ◌<◌, ◌≤◌, ◌^◌, ◌⊎◌, List, Option, None, Some, Result, Ok, Err}
use Rattle.cx_codec.specs.Place.{Buffered, Place, end_of}
use Rattle.cx_codec.specs.Reads.{Begins, Follows, MayBe, Standing, place_in}
use Rattle.cx_slices.specs.Bytes.{Byte}
use Rattle.cx_slicefmt.specs.declared.fault.SliceFault.{SliceFault}
use Rattle.cx_slicefmt.specs.declared.fault.SliceFault.TheVariants.{Format, ReadFault}
use Rattle.cx_callfmt.specs.declared.found.CallFound.{CallFound}
use Rattle.cx_callfmt.specs.declared.found.CallFound.TheVariants.{Items, Value, Call, End}
use Rattle.cx_callfmt.specs.declared.found.HeadFound.{HeadFound}
use Rattle.cx_callfmt.specs.declared.handing.Rest.{Rest}
use Rattle.cx_callfmt.specs.declared.handing.NextByte.{NextByte}
use Rattle.cx_callfmt.specs.Beginning.{Begun, BegunCall, BegunEnd, BegunItems, BegunValue, HeadBegun, begun_at}
use Rattle.cx_callfmt.specs.Handing.{Handed, Pending, before_runs}
use Rattle.cx_callfmt.specs.Reading.{next_record_at, record_at}
use Rattle.cx_callfmt.specs.Rules.{Behind, EndsAt}

-- as code holds them
abbrev pub head_in : HeadFound → HeadBegun
head_in h = record { words = h.words; runs = h.runs }

abbrev pub begun_in : CallFound → Begun
begun_in (Items index h) = BegunItems index (head_in h)
begun_in (Value index word) = BegunValue index word
begun_in (Call index number h) = BegunCall index number (head_in h)
begun_in (End count) = BegunEnd count

abbrev pub pending_in : Rest → Pending
pending_in r = record { va = r.va; size = r.size; runs = r.runs; least = r.least }

abbrev pub handed_in : Option NextByte → Option Handed
handed_in None = None
handed_in (Some n) = Some (record { byte = (n.va, n.byte); left = pending_in n.left })

-- There is no next byte only where none is left.
abbrev pub EndsRest : Rest → Option NextByte → Type 0
EndsRest r None = (r.size ≡ 0) × (r.runs ≡ 0)
EndsRest r (Some n) = Unit {0}

-- The addresses of a run fit.
pub record RestFits (r : Rest) : Type 0 where
  pub run : r.va + r.size ≤ 2 ^ 32
  pub least : r.least ≤ 2 ^ 32 + 1

-- What a reader holds: the input, where the next record may stand, what is left of the last head's bytes, and the count
-- where the end was read.
pub record CallReading : Type 0 where
  pub input : Buffered
  pub behind : Behind
  pub pending : Pending
  pub ended : Option ℕ

-- where the next record may stand behind it, and what is left of its bytes
abbrev pub behind_found : Behind → CallFound → Behind
behind_found behind (Items index h) = record { index = index; least = 1 }
behind_found behind (Value index word) = record { index = index; least = 2 }
behind_found behind (Call index number h) = record { index = index; least = 3 }
behind_found behind (End count) = behind

abbrev pub runs_of_found : CallFound → ℕ
runs_of_found (Items index h) = h.runs
runs_of_found (Value index word) = 0
runs_of_found (Call index number h) = h.runs
runs_of_found (End count) = 0

abbrev pub end_of_found : CallFound → Option ℕ
end_of_found (Items index h) = None
end_of_found (Value index word) = None
end_of_found (Call index number h) = None
end_of_found (End count) = Some count

pub record LeavesCall (old new : CallReading) (found : CallFound) : Type 0 where
  pub behind : new.behind ≡ behind_found old.behind found
  pub pending : new.pending ≡ before_runs (runs_of_found found)
  pub ended : new.ended ≡ end_of_found found

-- the next byte, by what is left behind it
abbrev pub byte_left : Pending → Option Byte → Option Handed
byte_left left None = None
byte_left left (Some byte) = Some (record { byte = byte; left = left })

-- None is left.
pub record NoneLeft (w : Pending) : Type 0 where
  pub size : w.size ≡ 0
  pub runs : w.runs ≡ 0

-- An end is read here,
pub record IsCallEnd (behind : Behind) (p : Place) (count : ℕ) : Type 0 where
  pub after : Place
  pub read : record_at behind p ≡ Ok (EndsAt count, after)

-- and nothing is behind it.
pub record IsLastEnd (behind : Behind) (p after : Place) : Type 0 where
  pub count : ℕ
  pub read : next_record_at behind p ≡ Ok (EndsAt count, after)

-- What a call that asks for what comes next says of an input. What a record begins with is there, whatever follows. An
-- end is too, and in an input that may be nothing follows it. A bad field is bad in an input that may be. Where the
-- source failed, what it gave ends inside what a record begins with, or with the end.
abbrev pub CallFoundIn : Behind → Place → Place → Type 0 → CallFound → Type 0
CallFoundIn behind p after may (Items index h) = begun_at behind p ≡ Ok (BegunItems index (head_in h), after)
CallFoundIn behind p after may (Value index word) = begun_at behind p ≡ Ok (BegunValue index word, after)
CallFoundIn behind p after may (Call index number h) = begun_at behind p ≡ Ok (BegunCall index number (head_in h), after)
CallFoundIn behind p after may (End count) =
    IsCallEnd behind p count × (may → next_record_at behind p ≡ Ok (EndsAt count, after))

abbrev pub CallRefusedIn : Behind → Place → Place → Type 0 → Type 0 → SliceFault → Type 0
CallRefusedIn behind p after may cut (Format o) = may → next_record_at behind p ≡ Err o
CallRefusedIn behind p after may cut ReadFault =
    cut → (record_at behind p ≡ Err (end_of p)) ⊎ IsLastEnd behind p after

abbrev pub CallNextIn : Behind → Place → Place → Type 0 → Type 0 → Result CallFound SliceFault → Type 0
CallNextIn behind p after may cut (Ok found) = CallFoundIn behind p after may found
CallNextIn behind p after may cut (Err fault) = CallRefusedIn behind p after may cut fault

pub record CallNexts (behind : Behind) (old new : Standing) (result : Result CallFound SliceFault) : Type 0 where
  pub follows : Follows old new
  pub next : (input : List ℕ) → Begins new.given input
      → CallNextIn behind (place_in old input) (place_in new input) (MayBe new input) (input ≡ new.given) result

-- how many bytes are left at most
abbrev pub bytes_left : Pending → ℕ
bytes_left w = w.runs * (2 ^ 32 + 1) + w.size

-- A byte that was handed out is gone from them.
abbrev pub RestShrinks : Pending → Option NextByte → Type 0
RestShrinks w None = Unit {0}
RestShrinks w (Some n) = bytes_left (pending_in n.left) < bytes_left w

abbrev pub PendingShrinks : Pending → Pending → Option Byte → Type 0
PendingShrinks old new None = Unit {0}
PendingShrinks old new (Some byte) = bytes_left new < bytes_left old
