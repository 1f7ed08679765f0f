-- What can be spelled as a call slice: a head, records in order, and an end.
use Rattle.std.specs.Prelude.{◌≡◌, ℕ, suc, ◌<◌, ◌≤◌, ◌^◌, ◌==◌, nat_le, nat_lt, ◌&&◌, ◌||◌, Bool, true, false, List, [], ◌∷◌}
use Rattle.cx_slicefmt.specs.Rules.{Form, IsHead, is_empty}
use Rattle.cx_placing.specs.Records.{Async, Calls, Record, Value, What}

-- Any runs: there are fewer than 2^32, and none is longer than all addresses.
abbrev pub calls : Form
calls = record { runs = 0xffffffff; most = 2 ^ 32 }

-- the order of the records at one index
abbrev pub rank : What → ℕ
rank (Async head) = 0
rank (Value word) = 1
rank (Calls number head) = 2

-- Where the next record may stand: the last one's index, which is 0 where there is none, and the least rank at it.
pub record Behind : Type 0 where
  pub index : ℕ
  pub least : ℕ

abbrev pub behind_start : Behind
behind_start = record { index = 0; least = 0 }

abbrev pub behind_record : Record → Behind
behind_record r = record { index = r.index; least = suc (rank r.what) }

-- A record of this rank may stand at this index.
abbrev pub may_come : Behind → ℕ → ℕ → Bool
may_come behind place index =
    nat_lt index (2 ^ 48) && (nat_lt behind.index index || (behind.index == index && nat_le behind.least place))

-- the end may have this count
abbrev pub may_end : Behind → ℕ → Bool
may_end behind count = nat_lt behind.index count && nat_le count (2 ^ 48)

-- An Async has an item.
abbrev pub IsWhat : What → Type 0
IsWhat (Async head) = IsHead calls head × (is_empty head ≡ false)
IsWhat (Value word) = word < 2 ^ 32
IsWhat (Calls number head) = (number < 2 ^ 32) × IsHead calls head

pub record MayFollow (behind : Behind) (r : Record) : Type 0 where
  pub comes : may_come behind (rank r.what) r.index ≡ true
  pub what : IsWhat r.what

-- the count is above the last index
pub record MayEnd (behind : Behind) (count : ℕ) : Type 0 where
  pub above : behind.index < count
  pub most : count ≤ 2 ^ 48

-- Records in order, and an end.
abbrev pub AreRecords : Behind → List Record → ℕ → Type 0
AreRecords behind [] count = MayEnd behind count
AreRecords behind (r ∷ rs) count = MayFollow behind r × AreRecords (behind_record r) rs count

-- a record, or the end with the number of steps
pub data CallEntry : Type 0 where
  RecordOf : Record → CallEntry
  EndsAt : ℕ → CallEntry

abbrev pub CallStands : Behind → CallEntry → Type 0
CallStands behind (RecordOf r) = MayFollow behind r
CallStands behind (EndsAt count) = MayEnd behind count
