-- What can be spelled as a slice.
use Rattle.std.specs.Prelude.{◌≡◌, ℕ, suc, ◌+◌, ◌<◌, ◌≤◌, ◌^◌, ◌&&◌, Bool, false, List, [], ◌∷◌, length}
use Rattle.std.specs.Prelude.{Option, IfSome, is_none}
use Rattle.std.specs.List.{list_all, AllByRecursion}
use Rattle.cx_map.specs.Bytes.{AreBytes}
use Rattle.cx_slices.specs.Bytes.{Byte, BytesRise}
use Rattle.cx_slices.specs.Groups.{Group}
use Rattle.cx_slices.specs.Items.{IsByteAt, IsWordOrNone, Items, are_none, is_nil}
use Rattle.cx_slices.specs.Stretches.{Stretch, stretches_of}

-- how many runs of bytes may stand together, and how many bytes one may have
pub record Form : Type 0 where
  pub runs : ℕ
  pub most : ℕ

-- a process slice
abbrev pub process : Form
process = record { runs = 8; most = 8 }

-- a word or none for each bit of a mask, and bytes that rise
pub record Head : Type 0 where
  pub words : List (Option ℕ)
  pub bytes : List Byte

abbrev pub head_in : Items ℕ → Head
head_in i = record { words = i.words; bytes = i.bytes }

abbrev pub is_empty : Head → Bool
is_empty h = list_all is_none h.words && is_nil h.bytes

-- A run of at most so many bytes, from an address on.
pub record IsByteRun (most least : ℕ) (s : Stretch) : Type 0 where
  pub from : least ≤ s.va
  pub some : 1 ≤ length s.bytes
  pub short : length s.bytes ≤ most
  pub fits : s.va + length s.bytes ≤ 2 ^ 32
  pub bytes : AreBytes s.bytes

-- Between two runs an address is left out.
abbrev pub AreByteRuns : ℕ → ℕ → List Stretch → Type 0
AreByteRuns most least [] = Unit {0}
AreByteRuns most least (s ∷ ss) = IsByteRun most least s × AreByteRuns most (s.va + length s.bytes + 1) ss

-- Words and bytes, which stand in runs that the form has room for.
pub record IsHead (form : Form) (h : Head) : Type 0 where
  pub count : length h.words ≡ 32
  pub words : AllByRecursion IsWordOrNone h.words
  pub rises : BytesRise 0 h.bytes
  pub bytes : AllByRecursion IsByteAt h.bytes
  pub runs : length (stretches_of h.bytes) ≤ form.runs
  pub most : AllByRecursion (λ s. length s.bytes ≤ form.most) (stretches_of h.bytes)

-- A group whose index has to be a least one or above. It has an item.
pub record IsGroup (form : Form) (least : ℕ) (g : Group ℕ) : Type 0 where
  pub from : least ≤ g.index
  pub below : g.index < 2 ^ 48
  pub head : IsHead form (head_in g.items)
  pub given : IfSome g.items.given (λ word. word < 2 ^ 32)
  pub some : are_none g.items ≡ false

-- The end stands behind a group, and its count is above that group's index.
pub record IsEnd (least count : ℕ) : Type 0 where
  pub behind : 1 ≤ least
  pub from : least ≤ count
  pub most : count ≤ 2 ^ 48

-- Groups and an end, where the first index has to be a least one or above.
abbrev pub AreSpelled : Form → ℕ → List (Group ℕ) → ℕ → Type 0
AreSpelled form least [] count = IsEnd least count
AreSpelled form least (g ∷ gs) count = IsGroup form least g × AreSpelled form (suc g.index) gs count

-- a group, or the end with the number of steps
pub data SliceEntry : Type 0 where
  GroupOf : Group ℕ → SliceEntry
  EndAt : ℕ → SliceEntry

abbrev pub EntryStands : Form → ℕ → SliceEntry → Type 0
EntryStands form least (GroupOf g) = IsGroup form least g
EntryStands form least (EndAt count) = IsEnd least count
