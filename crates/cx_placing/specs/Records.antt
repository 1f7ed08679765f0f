-- A slice by calls as records: of each step its items, where it has some, and the call that it is.
use Rattle.std.specs.Prelude.{ℕ, suc, Bool, true, false, List, [], ◌∷◌, ◌++◌, Option, None, Some, if◌then◌else◌}
use Rattle.std.specs.List.{list_any}
use Rattle.cx_slicefmt.specs.Rules.{Head, head_in, is_empty}
use Rattle.cx_slices.specs.Items.{Items}
use Rattle.cx_placing.specs.Placing.{Call, CallSlice, Placed}

-- items of a step, a value that it was given, or a call with its number and what it is handed
pub data What : Type 0 where
  Async : Head → What
  Value : ℕ → What
  Calls : ℕ → Head → What

-- what stands at a step, by its index
pub record Record : Type 0 where
  pub index : ℕ
  pub what : What

abbrev pub async_records : ℕ → Head → List Record
async_records k head = if is_empty head then [] else record { index = k; what = Async head } ∷ []

abbrev pub value_records : ℕ → Option ℕ → List Record
value_records k None = []
value_records k (Some word) = record { index = k; what = Value word } ∷ []

abbrev pub call_records : ℕ → Option Call → List Record
call_records k None = []
call_records k (Some call) = record { index = k; what = Calls call.number call.head } ∷ []

-- the records of a step, in their order
abbrev pub step_records : ℕ → Placed ℕ → List Record
step_records k p =
    async_records k (head_in p.items) ++ (value_records k p.items.given ++ call_records k p.call)

-- the records of these steps, which begin at an index
abbrev pub records_from : ℕ → List (Placed ℕ) → List Record
records_from k [] = []
records_from k (p ∷ ps) = step_records k p ++ records_from (suc k) ps

-- the records of items alone
abbrev pub item_records : ℕ → Items ℕ → List Record
item_records k i = async_records k (head_in i) ++ value_records k i.given

-- ---- a slice up to a call

-- What a slice begins with: nothing yet, or what the start is handed, and records.
pub record CallFront : Type 0 where
  pub start : Option Head
  pub records : List Record

abbrev pub nothing_put : CallFront
nothing_put = record { start = None; records = [] }

-- all of a slice
abbrev pub whole_front : CallSlice ℕ → CallFront
whole_front slice = record { start = Some slice.head; records = records_from 0 slice.steps }

abbrev pub is_call_what : What → Bool
is_call_what (Async head) = false
is_call_what (Value word) = false
is_call_what (Calls number head) = true

abbrev pub is_call_record : Record → Bool
is_call_record r = is_call_what r.what

-- the records before the last call
abbrev pub before_last_call : List Record → List Record
before_last_call [] = []
before_last_call (r ∷ rs) = if list_any is_call_record rs then r ∷ before_last_call rs else []

-- What stands before the last call. Where there is none, that is nothing.
abbrev pub up_to_last_call : CallFront → CallFront
up_to_last_call f =
    if list_any is_call_record f.records then record { start = f.start; records = before_last_call f.records }
    else nothing_put
