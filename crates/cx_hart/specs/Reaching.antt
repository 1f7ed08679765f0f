-- Where the bytes of an access to memory stand. An access that isn't aligned traps (Unprivileged ISA, 2.6 and 8.2), but
-- where the hart splits plain loads and stores by pages.
use Rattle.std.specs.Prelude.{ℕ, ◌+◌, ◌-◌, ◌%◌, Bool, true, false, not, ◌==◌, ◌&&◌, min, if◌then◌else◌, Option, None}
use Rattle.std.specs.Prelude.{Some}
use Rattle.cx_csr.specs.declared.causes.TheConstants.{LOAD_ADDRESS_MISALIGNED, STORE_ADDRESS_MISALIGNED}
use Rattle.cx_exec.specs.Arithmetic.{wrapped}
use Rattle.cx_exec.specs.declared.asks.Access.{Access}
use Rattle.cx_exec.specs.declared.asks.Access.TheVariants as access
use Rattle.cx_exec.specs.declared.asks.Need.{Need}
use Rattle.cx_map.specs.declared.TheConstants.{PAGE_SIZE}
use Rattle.cx_walk.specs.declared.kind.Kind.{Kind}
use Rattle.cx_walk.specs.declared.kind.Kind.TheVariants as kind
use Rattle.cx_walk.specs.declared.walk.Place.{Place}
use Rattle.cx_walk.specs.declared.walk.Place.TheVariants as place
use Rattle.cx_walk.specs.Walks.{address_of}
use Rattle.cx_hart.specs.Fetch.{translated}
use Rattle.cx_hart.specs.Phases.{Phase, trap, found, ◌>>=◌}
use Rattle.cx_hart.specs.Surroundings.{Surroundings}
use Rattle.cx_hart.specs.declared.findings.Part.{Part}
use Rattle.cx_hart.specs.declared.findings.Target.{Target}
use Rattle.cx_hart.specs.declared.findings.Target.TheVariants.{Memory, Device}

-- what is checked for an access, and the causes of its faults (Privileged 1.12, 3.1.15)
abbrev pub kind_of : Access → Kind
kind_of access.Load = kind.Load
kind_of access.Store = kind.Store
kind_of access.Reserve = kind.Reserve
kind_of access.Conditional = kind.Atomic
kind_of access.Amo = kind.Atomic

-- the cause where it isn't aligned (Privileged 1.12, 3.1.15: an LR is a load, an SC and an AMO are stores)
abbrev pub misaligned_cause : Access → ℕ
misaligned_cause access.Load = LOAD_ADDRESS_MISALIGNED
misaligned_cause access.Reserve = LOAD_ADDRESS_MISALIGNED
misaligned_cause access.Store = STORE_ADDRESS_MISALIGNED
misaligned_cause access.Conditional = STORE_ADDRESS_MISALIGNED
misaligned_cause access.Amo = STORE_ADDRESS_MISALIGNED

-- Plain loads and stores alone may be split.
abbrev pub is_plain : Access → Bool
is_plain access.Load = true
is_plain access.Store = true
is_plain access.Reserve = false
is_plain access.Conditional = false
is_plain access.Amo = false

abbrev pub is_naturally_aligned : Need → Bool
is_naturally_aligned n = n.va % n.len == 0

-- ---- an aligned access, whole

abbrev pub target_at : Need → Place → Target
target_at n (place.Ram pa) = Memory (record { va = n.va; pa = pa; len = n.len }) None
target_at n (place.Device pa) = Device (record { va = n.va; pa = pa; len = n.len })

unfoldable pub reached_whole : Surroundings → Need → Phase Target
reached_whole here n = do
  place ← translated here (kind_of n.access) n.va n.len
  found (target_at n place)

-- ---- an access split by pages: its bytes up to the end of the first page, and the rest, if there is any

abbrev pub first_length : Need → ℕ
first_length n = min n.len (PAGE_SIZE - n.va % PAGE_SIZE)

abbrev pub goes_on : Need → Bool
goes_on n = not (first_length n == n.len)

-- Addresses go on at 0 after 2^32 − 1 (Unprivileged ISA, 1.4).
abbrev pub second_address : Need → ℕ
second_address n = wrapped (n.va + first_length n)

-- A part is where its first byte is, as RAM is whole pages; a device has no bytes of their own.
abbrev pub reached_part : Surroundings → Need → ℕ → ℕ → Phase Part
reached_part here n va len = do
  place ← translated here (kind_of n.access) va 1
  found (record { va = va; pa = address_of place; len = len })

abbrev pub reached_second : Surroundings → Need → Phase (Option Part)
reached_second here n = do
  part ← reached_part here n (second_address n) (n.len - first_length n)
  found (Some part)

abbrev pub reached_rest : Surroundings → Need → Phase (Option Part)
reached_rest here n = if goes_on n then reached_second here n else found None

unfoldable pub reached_split : Surroundings → Need → Phase Target
reached_split here n = do
  first ← reached_part here n n.va (first_length n)
  more ← reached_rest here n
  found (Memory first more)

-- ---- an access

abbrev pub is_split : Bool → Need → Bool
is_split split n = split && is_plain n.access

-- That a misaligned access traps before anything is translated is this hart's own choice (Privileged 1.12, 3.1.15
-- leaves it).
unfoldable pub reached : Surroundings → Need → Phase Target
reached here n =
    if is_naturally_aligned n then reached_whole here n
    else if is_split here.split n then reached_split here n
    else trap (misaligned_cause n.access) n.va
