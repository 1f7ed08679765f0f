-- The rules of a possible observation as tests. What its types say needs none: its numbers are words and bytes.
use Rattle.std.specs.Prelude.{ℕ, ◌%◌, ◌==◌, ◌&&◌, Bool, true, false, drop, slice_index, Option, None, Some, is_none}
use Rattle.std.specs.Prelude.{◌+◌, ◌||◌, not, nat_le, slice_get, if◌then◌else◌, Result, Ok, Err}
use Rattle.std.specs.Int.{from_le_bytes, to_le_bytes, w32}
use Rattle.cx_exec.specs.Arithmetic.{wrapped}
use Rattle.cx_decode.specs.Decoding.{decoded}
use Rattle.cx_decode.specs.declared.ins.Ins.{Ins}
use Rattle.cx_exec.specs.Asking.{ask_of}
use Rattle.cx_exec.specs.Effect.{effect_of}
use Rattle.cx_exec.specs.User.{user_retires}
use Rattle.cx_exec.specs.declared.asks.Ask.{Ask}
use Rattle.cx_exec.specs.declared.effect.Effect.{Effect}
use Rattle.cx_exec.specs.declared.effect.Misaligned.{Misaligned}
use Rattle.cx_ram.specs.PhysicalMemory.{is_zero}
use Rattle.cx_observe.specs.Asked.{Extent, got_of, is_aligned, read_of, stored_at, takes_value, write_of}
use Rattle.cx_observe.specs.declared.TheConstants.{ECALL}
use Rattle.cx_observe.specs.declared.obs.Obs.{Obs}
use Rattle.cx_observe.specs.declared.obs.Seen.{Seen}

-- what was fetched at an address, if anything was, is this byte
abbrev pub agrees_with : Option ℕ → ℕ → Bool
agrees_with None byte = true
agrees_with (Some fetched) byte = fetched == byte

-- the byte of the instruction at an address, if one is there
abbrev pub fetched_at : ℕ → ℕ → ℕ → Option ℕ
fetched_at pc word va =
    if pc == va then slice_get (to_le_bytes w32 word) 0
    else if wrapped (pc + 1) == va then slice_get (to_le_bytes w32 word) 1
    else if wrapped (pc + 2) == va then slice_get (to_le_bytes w32 word) 2
    else if wrapped (pc + 3) == va then slice_get (to_le_bytes w32 word) 3
    else None

unfoldable pub agrees_at : ℕ → ℕ → ℕ → ℕ → Bool
agrees_at pc word va byte = agrees_with (fetched_at pc word va) byte

abbrev pub agrees_if : Bool → ℕ → ℕ → ℕ → ℕ → Bool
agrees_if there pc word va byte = not there || agrees_at pc word va byte

-- each of the bytes read, of which there are 1 to 4
unfoldable pub agrees_on : ℕ → ℕ → Seen → Bool
agrees_on pc word s =
    agrees_at pc word s.va (slice_index s.bytes 0)
    && (agrees_if (nat_le 2 s.len) pc word (wrapped (s.va + 1)) (slice_index s.bytes 1)
    && (agrees_if (nat_le 3 s.len) pc word (wrapped (s.va + 2)) (slice_index s.bytes 2)
    && agrees_if (nat_le 4 s.len) pc word (wrapped (s.va + 3)) (slice_index s.bytes 3)))

abbrev pub reads_as_fetched : ℕ → ℕ → Option Seen → Bool
reads_as_fetched pc word None = true
reads_as_fetched pc word (Some s) = agrees_on pc word s

abbrev pub calls_only : Obs → Bool
calls_only o = (o.word == ECALL) && (is_none o.read && (is_none o.value && is_none o.write))

-- so many bytes from there on, and zeros past them
abbrev pub reads_extent : ℕ → ℕ → Seen → Bool
reads_extent va len s = (s.va == va) && ((s.len == len) && is_zero (drop len s.bytes))

abbrev pub reads_asked : Option Extent → Option Seen → Bool
reads_asked None read = is_none read
reads_asked (Some place) None = false
reads_asked (Some place) (Some s) = reads_extent place.va place.len s

-- ---- what is written

abbrev pub same_access : Option Seen → Option Seen → Bool
same_access None None = true
same_access None (Some t) = false
same_access (Some s) None = false
same_access (Some s) (Some t) =
    (s.va == t.va) && ((s.len == t.len) && (from_le_bytes w32 s.bytes == from_le_bytes w32 t.bytes))

abbrev pub has_effect : Option Extent → Option Seen → Result Effect Misaligned → Bool
has_effect place write (Ok e) = same_access write (stored_at place e.write)
has_effect place write (Err m) = false

-- ---- an instruction

unfoldable pub carried_as : Obs → Ins → Ask → Bool
carried_as o i what =
    reads_asked (read_of what) o.read
    && (user_retires i
    && (is_aligned what
    && (takes_value what o.value
    && (reads_as_fetched o.pc o.word o.read
    && has_effect (write_of what) o.write (effect_of i o.pc o.x (got_of what o.read o.value))))))

abbrev pub carried_by : Obs → Option Ins → Bool
carried_by o None = false
carried_by o (Some i) = carried_as o i (ask_of i o.pc o.x)

-- register 0 is 0, pc is a multiple of 4, and the step is a call or an instruction carried out
abbrev pub passes_all : Obs → Bool
passes_all o = (slice_index o.x 0 == 0) && ((o.pc % 4 == 0) && (calls_only o || carried_by o (decoded o.word)))
