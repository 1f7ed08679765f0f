-- A step of a program that runs alone, over its words and bytes.
use Rattle.std.specs.Prelude.{ℕ, zero, suc, ◌+◌, ◌%◌, ◌==◌, ◌&&◌, nat_lt, List, [], ◌∷◌, Option, None, Some, Result}
use Rattle.std.specs.Prelude.{Ok, Err, if◌then◌else◌}
use Rattle.cx_decode.specs.Decoding.{decoded}
use Rattle.cx_decode.specs.declared.ins.Ins.{Ins}
use Rattle.cx_exec.specs.Arithmetic.{wrapped}
use Rattle.cx_exec.specs.Asking.{ask_of}
use Rattle.cx_exec.specs.Effect.{effect_of}
use Rattle.cx_exec.specs.User.{user_retires}
use Rattle.cx_exec.specs.declared.asks.Ask.{Ask}
use Rattle.cx_exec.specs.declared.effect.Effect.{Effect}
use Rattle.cx_exec.specs.declared.effect.Misaligned.{Misaligned}
use Rattle.cx_ram.specs.LittleEndian.{loaded}
use Rattle.cx_slices.specs.Bytes.{Map}
use Rattle.cx_observe.specs.Asked.{Extent, got_of, is_aligned, read_of, stored_at, takes_value, write_of}
use Rattle.cx_observe.specs.Possible.{are_words, is_word_or_none}
use Rattle.cx_observe.specs.Seeing.{seen_with}
use Rattle.cx_observe.specs.declared.TheConstants.{ECALL}
use Rattle.cx_observe.specs.declared.obs.Obs.{Obs}
use Rattle.cx_observe.specs.declared.obs.Seen.{Seen}

infixl 10 ◌>>=◌
abbrev pub ◌>>=◌ : {Y Z : Type 0} → Option Y → (Y → Option Z) → Option Z
None >>= next = None
(Some y) >>= next = next y

abbrev pub only_byte : Option ℕ → Option ℕ
only_byte None = None
only_byte (Some b) = if nat_lt b 256 then Some b else None

-- so many bytes from an address on, where all of them are there
abbrev pub bytes_given : Map → ℕ → ℕ → Option (List ℕ)
bytes_given map va zero = Some []
bytes_given map va (suc n) = do
  b ← only_byte (map (wrapped va))
  bs ← bytes_given map (va + 1) n
  Some (b ∷ bs)

abbrev pub read_given : Map → Option Extent → Option (Option Seen)
read_given map None = Some None
read_given map (Some place) = do
  bytes ← bytes_given map place.va place.len
  Some (Some (seen_with place.va bytes))

abbrev pub effect_given : Result Effect Misaligned → Option Effect
effect_given (Ok effect) = Some effect
effect_given (Err misaligned) = None

abbrev pub observed : ℕ → List ℕ → ℕ → Ask → Option Seen → Option ℕ → Effect → Obs
observed pc x word ask read value effect = record {
  pc = pc;
  x = x;
  word = word;
  read = read;
  value = value;
  write = stored_at (write_of ask) effect.write;
}

abbrev pub asking : ℕ → List ℕ → Map → Option ℕ → ℕ → Ins → Ask → Option Obs
asking pc x map value word i ask =
    if user_retires i && (is_aligned ask && takes_value ask value) then (do
      read ← read_given map (read_of ask)
      effect ← effect_given (effect_of i pc x (got_of ask read value))
      Some (observed pc x word ask read value effect))
    else None

abbrev pub retiring : ℕ → List ℕ → Map → Option ℕ → ℕ → Ins → Option Obs
retiring pc x map value word i = asking pc x map value word i (ask_of i pc x)

abbrev pub calling : ℕ → List ℕ → Option ℕ → ℕ → Option Obs
calling pc x None word = Some (record { pc = pc; x = x; word = word; read = None; value = None; write = None })
calling pc x (Some value) word = None

abbrev pub carrying_out : ℕ → List ℕ → Map → Option ℕ → ℕ → Option Obs
carrying_out pc x map value word =
    if word == ECALL then calling pc x value word else decoded word >>= retiring pc x map value word

-- Words are pc and the registers from 1 on. A number that isn't of 32 bits is no word.
unfoldable pub step_of : List ℕ → Map → Option ℕ → Option Obs
step_of [] map value = None
step_of (pc ∷ xs) map value =
    if are_words (pc ∷ xs) && (is_word_or_none value && (pc % 4 == 0)) then (do
      bytes ← bytes_given map pc 4
      carrying_out pc (0 ∷ xs) map value (loaded bytes 0 4))
    else None
