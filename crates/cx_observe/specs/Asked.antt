-- What an instruction of user mode asks for, and what it gets.
use Rattle.std.specs.Prelude.{ℕ, ◌==◌, ◌%◌, nat_lt, Bool, true, false, Option, None, Some, option_map, unwrap_or}
use Rattle.cx_exec.specs.declared.asks.Ask.{Ask}
use Rattle.cx_exec.specs.declared.asks.Ask.TheVariants.{Load, Store, Reserve, Conditional, Amo, Csr}
use Rattle.cx_exec.specs.declared.got.Got.{Got}
use Rattle.cx_exec.specs.declared.got.Got.TheVariants.{Nothing as NoAnswer, Bytes, Outcome, Old}
use Rattle.cx_ram.specs.LittleEndian.{loaded, low_bytes}
use Rattle.cx_observe.specs.Seeing.{seen_with}
use Rattle.cx_observe.specs.declared.obs.Seen.{Seen}

-- so many bytes from an address on
pub record Extent : Type 0 where
  pub va : ℕ
  pub len : ℕ

abbrev pub extent : ℕ → ℕ → Option Extent
extent va len = Some (record { va = va; len = len })

-- what is read, and what may be written
abbrev pub read_of : Ask → Option Extent
read_of (Load va len) = extent va len
read_of (Reserve va) = extent va 4
read_of (Amo va) = extent va 4
read_of ask = None

abbrev pub write_of : Ask → Option Extent
write_of (Store va len) = extent va len
write_of (Conditional va) = extent va 4
write_of (Amo va) = extent va 4
write_of ask = None

-- The address of an LR, SC or AMO is a multiple of 4 (Unprivileged ISA, 8.2 and 8.4); those of loads and stores are
-- free, as a hart may split them (2.6).
abbrev pub is_aligned : Ask → Bool
is_aligned (Reserve va) = va % 4 == 0
is_aligned (Conditional va) = va % 4 == 0
is_aligned (Amo va) = va % 4 == 0
is_aligned ask = true

-- A value comes exactly to an SC, to which it is 0 or 1, and to a read of a counter.
abbrev pub takes_value : Ask → Option ℕ → Bool
takes_value (Conditional va) (Some value) = nat_lt value 2
takes_value (Conditional va) None = false
takes_value Csr (Some value) = true
takes_value Csr None = false
takes_value ask (Some value) = false
takes_value ask None = true

-- the number that the bytes read are
abbrev pub number_read : Option Seen → ℕ
number_read None = 0
number_read (Some s) = loaded s.bytes 0 s.len

-- what the instruction gets
abbrev pub got_of : Ask → Option Seen → Option ℕ → Got
got_of (Load va len) read value = Bytes (number_read read)
got_of (Reserve va) read value = Bytes (number_read read)
got_of (Amo va) read value = Bytes (number_read read)
got_of (Conditional va) read value = Outcome (unwrap_or value 0)
got_of Csr read value = Old (unwrap_or value 0)
got_of ask read value = NoAnswer

-- what stands where this value is stored
abbrev pub stored_at : Option Extent → Option ℕ → Option Seen
stored_at place None = None
stored_at place (Some value) = option_map (λ p. seen_with p.va (low_bytes p.len value)) place
