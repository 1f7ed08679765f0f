-- What a step sees of memory and of devices, look by look, and how its record tells it.
use Rattle.std.specs.Prelude.{ℕ, ◌+◌, List, [], ◌∷◌, Some, slice_set}
use Rattle.cx_hart.specs.declared.record.StepRec.{StepRec}
use Rattle.cx_hart.specs.declared.record.Touch.{Touch}

-- A look at an entry of a page table, by its place; at the word of the instruction; at the bytes of its access up to
-- the end of a page, and from there on.
pub data Look : Type 0 where
  Entry : ℕ → ℕ → Look
  Word : Touch → Look
  First : Touch → Look
  Rest : Touch → Look

-- How a record tells a look. An entry is the next of its entries.
abbrev pub tell : Look → StepRec → StepRec
tell (Entry place entry) rec = record rec {
  walked = rec.walked + 1;
  places = slice_set rec.places rec.walked place;
  entries = slice_set rec.entries rec.walked entry;
}
tell (Word t) rec = record rec { fetch = Some t }
tell (First t) rec = record rec { read = Some t }
tell (Rest t) rec = record rec { read_more = Some t }

-- the record with these looks told too, in order
abbrev pub told : List Look → StepRec → StepRec
told [] rec = rec
told (look ∷ looks) rec = told looks (tell look rec)

-- Who knew a record knows it with these looks told too.
abbrev pub Learns : (StepRec → Type 0) → (StepRec → Type 0) → List Look → Type 0
Learns Before After looks = (r : StepRec) → Before r → After (told looks r)
