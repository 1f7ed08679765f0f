-- The interrupt that is to be taken (Privileged 1.12, section 3.1.6.1 for the enables, 3.1.8 for delegation, 3.1.9 for
-- the order).
use Rattle.std.specs.Prelude.{ℕ, ◌-◌, ◌^◌, ◌==◌, ◌&&◌, ◌||◌, nat_lt, if◌then◌else◌, Option, None, Some, find}
use Rattle.std.specs.Int.RustNames.{bit_and}
use Rattle.cx_csr.specs.declared.state.State.{State}
use Rattle.cx_csr.specs.Bits.{is_set}
use Rattle.cx_csr.specs.Values.{pending_bits}
use Rattle.cx_trap.specs.Causes.{interrupts}
use Rattle.cx_csr.specs.declared.modes.TheConstants.{USER, SUPERVISOR, MACHINE}
use Rattle.cx_csr.specs.declared.status.TheConstants.{SIE, MIE}

-- pending, and enabled each by itself
abbrev pub enabled_bits : State → ℕ
enabled_bits s = bit_and (pending_bits s) s.csr.mie

-- Those that aren't delegated may be taken to machine mode: always from below it, and in it where MIE is set.
abbrev pub to_machine : State → ℕ
to_machine s =
    if nat_lt s.mode MACHINE || is_set s.csr.mstatus MIE then bit_and (enabled_bits s) (2 ^ 32 - 1 - s.csr.mideleg) else
    0

-- Those that are delegated may be taken to supervisor mode: always from user mode, in supervisor mode where SIE is set,
-- and never from machine mode.
abbrev pub to_supervisor : State → ℕ
to_supervisor s =
    if s.mode == USER || (s.mode == SUPERVISOR && is_set s.csr.mstatus SIE) then bit_and (enabled_bits s) s.csr.mideleg
    else 0

-- the first interrupt among these bits
abbrev pub first_of : ℕ → Option ℕ
first_of bits = find (λ i. is_set bits i) interrupts

abbrev pub first_or : Option ℕ → Option ℕ → Option ℕ
first_or None other = other
first_or (Some i) other = Some i

-- Those to machine mode come first.
unfoldable pub pending_of : State → Option ℕ
pending_of s = first_or (first_of (to_machine s)) (first_of (to_supervisor s))
