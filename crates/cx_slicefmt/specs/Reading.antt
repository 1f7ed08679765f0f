-- How groups are read, field by field: each reader answers its value and the place behind it, or the offset of the
-- first bad field.
use Rattle.std.specs.Prelude.{ℕ, zero, suc, ◌+◌, ◌-◌, ◌/◌, ◌%◌, ◌^◌, ◌==◌, nat_le, min, ◌&&◌, Bool, false}
use Rattle.std.specs.Prelude.{List, [], ◌∷◌, length, Option, None, Some, is_none, if◌then◌else◌}
use Rattle.std.specs.List.{list_all}
use Rattle.cx_codec.specs.Place.{Reader, ◌>>=◌, done}
use Rattle.cx_codec.specs.Fields.{bytes_at, byte_at, word_at, varint_at}
use Rattle.cx_codec.specs.Checks.{checked, close_at, is_between}
use Rattle.cx_slices.specs.Items.{Items}
use Rattle.cx_slices.specs.Stretches.{Stretch, bytes_of_stretches}
use Rattle.cx_slicefmt.specs.Rules.{Form, Head, SliceEntry, GroupOf, EndAt, is_empty}

-- no word, or one: by a bit of a mask, or by a flag
abbrev pub word_by : ℕ → Reader (Option ℕ)
word_by zero = done None
word_by (suc n) = do
  word ← word_at
  done (Some word)

-- so many bits of a mask, the lowest first
abbrev pub present_at : ℕ → ℕ → Reader (List (Option ℕ))
present_at zero mask = done []
present_at (suc n) mask = do
  item ← word_by (mask % 2)
  rest ← present_at n (mask / 2)
  done (item ∷ rest)

unfoldable pub masked_at : Reader (List (Option ℕ))
masked_at = do
  mask ← word_at
  present_at 32 mask

-- a run of at most so many bytes, from a least address on; it doesn't pass the last address
unfoldable pub run_at : ℕ → ℕ → Reader Stretch
run_at most least = do
  va ← checked (λ w. nat_le least w) word_at
  size ← checked (is_between 1 (min most (2 ^ 32 - va))) varint_at
  bytes ← bytes_at size
  done (record { va = va; bytes = bytes })

abbrev pub runs_at : ℕ → ℕ → ℕ → Reader (List Stretch)
runs_at most zero least = done []
runs_at most (suc n) least = do
  first ← run_at most least
  rest ← runs_at most n (first.va + length first.bytes + 1)
  done (first ∷ rest)

-- a count of runs, and the runs; the count is above 0 where an item is needed
unfoldable pub counted_at : Form → Bool → Reader (List Stretch)
counted_at form needed = do
  count ← checked (is_between (if needed then 1 else 0) form.runs) varint_at
  runs_at form.most count 0

-- words and bytes; there is one of them at least where an item is needed
unfoldable pub head_at : Form → Bool → Reader Head
head_at form needed = do
  words ← masked_at
  runs ← counted_at form (needed && list_all is_none words)
  done (record { words = words; bytes = bytes_of_stretches runs })

-- what is given; the flag is 1 where an item is needed
unfoldable pub given_at : Bool → Reader (Option ℕ)
given_at needed = do
  flag ← checked (is_between (if needed then 1 else 0) 1) byte_at
  word_by flag

unfoldable pub items_at : Form → Reader (Items ℕ)
items_at form = do
  head ← head_at form false
  given ← given_at (is_empty head)
  done (record { words = head.words; bytes = head.bytes; given = given })

-- an index from a least one up to a greatest one, by its distance from the last
unfoldable pub index_at : ℕ → ℕ → Reader ℕ
index_at least greatest = do
  distance ← checked (λ d. is_between least greatest (least - 1 + d)) varint_at
  done (least - 1 + distance)

abbrev pub entry_by : Form → ℕ → ℕ → Reader SliceEntry
entry_by form least zero = do
  count ← index_at least (2 ^ 48)
  done (EndAt count)
entry_by form least (suc n) = do
  index ← index_at least (2 ^ 48 - 1)
  items ← items_at form
  done (GroupOf (record { index = index; items = items }))

-- A group or the end, where an index has to be a least one or above. The first tag is that of a group.
unfoldable pub entry_at : Form → ℕ → Reader SliceEntry
entry_at form least = do
  tag ← checked (is_between (if least == 0 then 1 else 0) 1) byte_at
  entry_by form least tag

-- nothing may follow the end
abbrev pub closed : SliceEntry → Reader SliceEntry
closed (GroupOf g) = done (GroupOf g)
closed (EndAt count) = do
  nothing ← close_at
  done (EndAt count)

unfoldable pub next_at : Form → ℕ → Reader SliceEntry
next_at form least = do
  entry ← entry_at form least
  closed entry
