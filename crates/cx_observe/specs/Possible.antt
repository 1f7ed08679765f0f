-- Which observations a step in user mode can make.
use Rattle.std.specs.Prelude.{◌≡◌, ℕ, ◌%◌, ◌<◌, ◌^◌, ◌⊎◌, nat_lt, Bool, true, List, length, slice_index, Option, None}
use Rattle.std.specs.Prelude.{Some, Ok}
use Rattle.std.specs.List.{list_all}
use Rattle.cx_decode.specs.Decoding.{decoded}
use Rattle.cx_decode.specs.declared.ins.Ins.{Ins}
use Rattle.cx_exec.specs.Asking.{ask_of}
use Rattle.cx_exec.specs.Effect.{effect_of}
use Rattle.cx_exec.specs.User.{user_retires}
use Rattle.cx_exec.specs.declared.effect.Effect.{Effect}
use Rattle.cx_slices.specs.Bytes.{Shows, byte_found}
use Rattle.cx_observe.specs.Asked.{Extent, got_of, is_aligned, read_of, stored_at, takes_value, write_of}
use Rattle.cx_observe.specs.Seeing.{seen_with, sights}
use Rattle.cx_observe.specs.declared.TheConstants.{ECALL}
use Rattle.cx_observe.specs.declared.obs.Obs.{Obs}
use Rattle.cx_observe.specs.declared.obs.Seen.{Seen}

-- ---- the ranges of its numbers

abbrev pub is_word : ℕ → Bool
is_word n = nat_lt n (2 ^ 32)

abbrev pub are_words : List ℕ → Bool
are_words ws = list_all is_word ws

abbrev pub is_word_or_none : Option ℕ → Bool
is_word_or_none None = true
is_word_or_none (Some n) = is_word n

abbrev pub are_bytes : List ℕ → Bool
are_bytes bs = list_all (λ b. nat_lt b 256) bs

-- ---- what is read

-- These bytes, as many as are asked for, and zeros past them.
pub record IsReading (place : Extent) (s : Seen) : Type 0 where
  pub bytes : List ℕ
  pub are : are_bytes bytes ≡ true
  pub len : length bytes ≡ place.len
  pub is : s ≡ seen_with place.va bytes

-- There is a read exactly where one is asked for.
abbrev pub IsReadOf : Option Extent → Option Seen → Type 0
IsReadOf None None = Unit {0}
IsReadOf None (Some s) = ⊥
IsReadOf (Some place) None = ⊥
IsReadOf (Some place) (Some s) = IsReading place s

-- ---- what is done

-- A call of the environment: it takes and leaves nothing.
pub record IsEnvironmentCall (o : Obs) : Type 0 where
  pub word : o.word ≡ ECALL
  pub read : o.read ≡ None
  pub value : o.value ≡ None
  pub write : o.write ≡ None

-- the instruction of the word, which user mode can retire, with what it asked for
pub record Retires (o : Obs) : Type 0 where
  pub ins : Ins
  pub spelled : decoded o.word ≡ Some ins
  pub user : user_retires ins ≡ true
  pub aligned : is_aligned (ask_of ins o.pc o.x) ≡ true
  pub read : IsReadOf (read_of (ask_of ins o.pc o.x)) o.read
  pub value : takes_value (ask_of ins o.pc o.x) o.value ≡ true
  pub effect : Effect
  pub does : effect_of ins o.pc o.x (got_of (ask_of ins o.pc o.x) o.read o.value) ≡ Ok effect
  pub write : o.write ≡ stored_at (write_of (ask_of ins o.pc o.x)) effect.write

-- Its numbers are words, pc is a multiple of 4, and where it saw an address twice, it saw the same byte. What it does is
-- a call, or an instruction that user mode can retire.
pub record Possible (o : Obs) : Type 0 where
  pub pc : is_word o.pc ≡ true
  pub count : length o.x ≡ 32
  pub zero : slice_index o.x 0 ≡ 0
  pub words : are_words o.x ≡ true
  pub word : o.word < 2 ^ 32
  pub value : is_word_or_none o.value ≡ true
  pub aligned : o.pc % 4 ≡ 0
  pub agree : Shows (byte_found (sights o)) (sights o)
  pub does : IsEnvironmentCall o ⊎ Retires o
