-- What the reader and the writer of a slice hold, and what is read in between.
use Rattle.std.specs.Prelude.{◌≡◌, ℕ, suc, ◌⊎◌, List, take, Option, None, Some, Result, Ok, Err}
use Rattle.arrayvec.specs.ArrayVec.{ArrayVec}
use Rattle.cx_codec.specs.Blocks.{Waiting}
use Rattle.cx_codec.specs.Place.{Buffered, Place, Reader, ◌>>=◌, done, end_of}
use Rattle.cx_codec.specs.Reads.{Begins, Follows, MayBe, Standing, place_in}
use Rattle.cx_slices.specs.Bytes.{Byte}
use Rattle.cx_slices.specs.Items.{Items}
use Rattle.cx_slices.specs.Stretches.{Stretch, bytes_of_stretches}
use Rattle.cx_slicefmt.specs.declared.fault.SliceFault.{SliceFault}
use Rattle.cx_slicefmt.specs.declared.fault.SliceFault.TheVariants.{Format, ReadFault}
use Rattle.cx_slicefmt.specs.declared.items.GroupItems.{GroupItems}
use Rattle.cx_slicefmt.specs.declared.items.Either.{Either}
use Rattle.cx_slicefmt.specs.declared.items.Either.TheVariants.{Group, End}
use Rattle.cx_slicefmt.specs.declared.pieces.Run.{Run}
use Rattle.cx_slicefmt.specs.Reading.{entry_at, next_at, runs_at}
use Rattle.cx_slicefmt.specs.Rules.{SliceEntry, GroupOf, EndAt, process}

-- the items of a group, as code holds them
abbrev pub items_in : GroupItems → Items ℕ
items_in s = record { words = s.words; bytes = s.bytes.items; given = s.given }

abbrev pub entry_in : Either → SliceEntry
entry_in (Group index items) = GroupOf (record { index = index; items = items_in items })
entry_in (End count) = EndAt count

-- the least index that may stand behind it
abbrev pub least_after : ℕ → Either → ℕ
least_after least (Group index items) = suc index
least_after least (End count) = least

-- the end of a slice, where it is one
abbrev pub ended_by : Either → Option ℕ
ended_by (Group index items) = None
ended_by (End count) = Some count

-- a run, and the bytes of several
abbrev pub stretch_of : Run → Stretch
stretch_of r = record { va = r.va; bytes = take r.len r.bytes }

abbrev pub pairs_of : ArrayVec Byte → List Byte
pairs_of v = v.items

unfoldable pub run_bytes_at : ℕ → Reader (List Byte)
run_bytes_at count = do
  runs ← runs_at 8 count 0
  done (bytes_of_stretches runs)

-- What a reader holds: the input, the least index that the next group may have, and the count where the end was read.
pub record SliceReading : Type 0 where
  pub input : Buffered
  pub least : ℕ
  pub ended : Option ℕ

-- what a writer holds: the output, and the least index that the next group may have
pub record SliceWriting : Type 0 where
  pub output : Waiting
  pub least : ℕ

-- What was read last: the next group's index is above its, and there is no next behind the end.
pub record Leaves (old new : SliceReading) (found : Either) : Type 0 where
  pub least : new.least ≡ least_after old.least found
  pub ended : new.ended ≡ ended_by found

-- An end is read here.
pub record IsEndRead (least : ℕ) (p : Place) (count : ℕ) : Type 0 where
  pub behind : Place
  pub read : entry_at process least p ≡ Ok (EndAt count, behind)

-- the same with nothing behind it
pub record IsLast (least : ℕ) (p after : Place) : Type 0 where
  pub count : ℕ
  pub read : next_at process least p ≡ Ok (EndAt count, after)

-- What a call that asks for what comes next says of an input. A group is one, whatever follows. An end is one too, and
-- in an input that may be nothing follows it. A bad field is bad in an input that may be. Where the source failed,
-- what it gave ends inside an entry, or with the end.
abbrev pub FoundIn : ℕ → Place → Place → Type 0 → Either → Type 0
FoundIn least p after may (Group index items) =
    entry_at process least p ≡ Ok (GroupOf (record { index = index; items = items_in items }), after)
FoundIn least p after may (End count) =
    IsEndRead least p count × (may → next_at process least p ≡ Ok (EndAt count, after))

abbrev pub RefusedIn : ℕ → Place → Place → Type 0 → Type 0 → SliceFault → Type 0
RefusedIn least p after may cut (Format o) = may → next_at process least p ≡ Err o
RefusedIn least p after may cut ReadFault = cut → (entry_at process least p ≡ Err (end_of p)) ⊎ IsLast least p after

abbrev pub NextIn : ℕ → Place → Place → Type 0 → Type 0 → Result Either SliceFault → Type 0
NextIn least p after may cut (Ok found) = FoundIn least p after may found
NextIn least p after may cut (Err fault) = RefusedIn least p after may cut fault

pub record Nexts (least : ℕ) (old new : Standing) (result : Result Either SliceFault) : Type 0 where
  pub follows : Follows old new
  pub next : (input : List ℕ) → Begins new.given input
      → NextIn least (place_in old input) (place_in new input) (MayBe new input) (input ≡ new.given) result
