-- The spelling of slices.
use Rattle.std.specs.Prelude.{ℕ, suc, ◌+◌, ◌-◌, ◌*◌, List, [], ◌∷◌, ◌++◌, length, Option, None, Some, codes}
use Rattle.std.specs.Int.{w32, to_le_bytes}
use Rattle.cx_codec.specs.Varint.{varint}
use Rattle.cx_slices.specs.Groups.{Group}
use Rattle.cx_slices.specs.Items.{Items}
use Rattle.cx_slices.specs.Stretches.{Stretch, stretches_of}
use Rattle.cx_slicefmt.specs.Rules.{Head, SliceEntry, GroupOf, EndAt, head_in}

-- a bit says whether a word follows
abbrev pub bit : Option ℕ → ℕ
bit None = 0
bit (Some word) = 1

abbrev pub word_text : Option ℕ → List ℕ
word_text None = []
word_text (Some word) = to_le_bytes w32 word

-- a bit for each word, the lowest for the first
abbrev pub mask_of : List (Option ℕ) → ℕ
mask_of [] = 0
mask_of (i ∷ is) = bit i + 2 * mask_of is

abbrev pub present_text : List (Option ℕ) → List ℕ
present_text [] = []
present_text (i ∷ is) = word_text i ++ present_text is

-- a run of bytes: its address, how many they are, and the bytes
abbrev pub run_text : Stretch → List ℕ
run_text s = to_le_bytes w32 s.va ++ (varint (length s.bytes) ++ s.bytes)

abbrev pub runs_text : List Stretch → List ℕ
runs_text [] = []
runs_text (s ∷ ss) = run_text s ++ runs_text ss

-- the mask, and the words that are there
abbrev pub masked_text : List (Option ℕ) → List ℕ
masked_text is = to_le_bytes w32 (mask_of is) ++ present_text is

abbrev pub counted_text : List Stretch → List ℕ
counted_text ss = varint (length ss) ++ runs_text ss

unfoldable pub head_text : Head → List ℕ
head_text h = masked_text h.words ++ counted_text (stretches_of h.bytes)

-- what is given: a flag, and the word where it is 1
abbrev pub given_text : Option ℕ → List ℕ
given_text given = (bit given ∷ []) ++ word_text given

unfoldable pub items_text : Items ℕ → List ℕ
items_text i = head_text (head_in i) ++ given_text i.given

-- A group whose index has to be a least one or above: its tag, how far it is from the last one, and its items.
unfoldable pub group_text : ℕ → Group ℕ → List ℕ
group_text least g = (1 ∷ []) ++ (varint (g.index - (least - 1)) ++ items_text g.items)

-- the end: its tag, and how far the number of steps is from the last index
unfoldable pub slice_end_text : ℕ → ℕ → List ℕ
slice_end_text least count = (0 ∷ []) ++ varint (count - (least - 1))

abbrev pub slice_entry_text : ℕ → SliceEntry → List ℕ
slice_entry_text least (GroupOf g) = group_text least g
slice_entry_text least (EndAt count) = slice_end_text least count

abbrev pub groups_text : ℕ → List (Group ℕ) → List ℕ
groups_text least [] = []
groups_text least (g ∷ gs) = group_text least g ++ groups_text (suc g.index) gs

abbrev pub ended_text : ℕ → List (Group ℕ) → ℕ → List ℕ
ended_text least [] count = slice_end_text least count
ended_text least (g ∷ gs) count = group_text least g ++ ended_text (suc g.index) gs count

-- the least index that may stand behind groups
abbrev pub least_behind : ℕ → List (Group ℕ) → ℕ
least_behind least [] = least
least_behind least (g ∷ gs) = least_behind (suc g.index) gs

-- the four bytes that a process slice begins with
abbrev pub slice_magic : List ℕ
slice_magic = codes "CXP1"

-- a process slice without its end, and whole
unfoldable pub slice_body : List (Group ℕ) → List ℕ
slice_body groups = slice_magic ++ groups_text 0 groups

unfoldable pub slice_text : List (Group ℕ) → ℕ → List ℕ
slice_text groups count = slice_magic ++ ended_text 0 groups count
