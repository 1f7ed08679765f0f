-- Which accesses to control and status registers are legal, and what a legal one does.
use Rattle.std.specs.Prelude.{ℕ, ◌/◌, ◌%◌, ◌^◌, ◌<◌, Bool, false, not, ◌==◌, ◌&&◌, ◌||◌, nat_lt, if◌then◌else◌, is_none}
use Rattle.std.specs.Prelude.{Option, None, Some}
use Rattle.cx_csr.specs.declared.state.State.{State}
use Rattle.cx_csr.specs.declared.access.Csr.{Csr}
use Rattle.cx_csr.specs.declared.access.Csr.TheVariants.{Value, Illegal}
use Rattle.cx_csr.specs.declared.access.Csr.TheVariants as answers
use Rattle.cx_csr.specs.declared.register.Register.{Register}
use Rattle.cx_csr.specs.Bits.{is_set, with_bits}
use Rattle.cx_csr.specs.Table.{register_at, is_from}
use Rattle.cx_csr.specs.Values.{read_as, csr_written}
use Rattle.cx_csr.specs.declared.interrupts.TheConstants.{SEI}
use Rattle.cx_csr.specs.declared.modes.TheConstants.{USER, SUPERVISOR, MACHINE}
use Rattle.cx_csr.specs.declared.numbers.TheConstants.{CSR_SATP, CSR_MIP, CSR_CYCLE, CSR_HPMCOUNTER31, CSR_CYCLEH}
use Rattle.cx_csr.specs.declared.numbers.TheConstants.{CSR_HPMCOUNTER31H}
use Rattle.cx_csr.specs.declared.status.TheConstants.{TVM}

-- Bits 9:8 of a number are the least mode that may use it, and bits 11:10 are 3 where it is read only (section 2.1).
abbrev pub is_above : State → ℕ → Bool
is_above s number = nat_lt s.mode (number / 2 ^ 8 % 4)

abbrev pub is_read_only : ℕ → Bool
is_read_only number = number / 2 ^ 10 % 4 == 3

-- satp in supervisor mode, where TVM is set (section 3.1.6.5)
abbrev pub is_trapped : State → ℕ → Bool
is_trapped s number = number == CSR_SATP && s.mode == SUPERVISOR && is_set s.csr.mstatus TVM

-- The counters of user mode, cycle, time, instret and hpmcounter3 to 31, and their high halves.
abbrev pub is_user_counter : ℕ → Bool
is_user_counter number = is_from CSR_CYCLE CSR_HPMCOUNTER31 number || is_from CSR_CYCLEH CSR_HPMCOUNTER31H number

-- a counter below machine mode whose bit of mcounteren is 0 (section 3.1.11)
abbrev pub is_closed : State → ℕ → Bool
is_closed s number = is_user_counter number && nat_lt s.mode MACHINE && not (is_set s.csr.mcounteren (number % 32))

-- a counter in user mode whose bit of scounteren is 0 (section 4.1.5)
abbrev pub is_closed_to_user : State → ℕ → Bool
is_closed_to_user s number = is_user_counter number && s.mode == USER && not (is_set s.csr.scounteren (number % 32))

-- An access is illegal for one of six reasons; the first flag says whether it writes.
unfoldable pub is_illegal : Bool → State → ℕ → Bool
is_illegal writes s number =
    is_none (register_at number)
    || is_above s number
    || (writes && is_read_only number)
    || is_trapped s number
    || is_closed s number
    || is_closed_to_user s number

-- what the register of the number reads as
abbrev pub csr_value : Option Register → State → Csr
csr_value None s = Illegal
csr_value (Some register) s = read_as register s

-- the answer, where it is a value, has 32 bits
abbrev pub IsWordAnswer : Csr → Type 0
IsWordAnswer (Value v) = v < 2 ^ 32
IsWordAnswer (answers.Time high) = Unit {0}
IsWordAnswer Illegal = Unit {0}

unfoldable pub csr_read : State → ℕ → Csr
csr_read s number = if is_illegal false s number then Illegal else csr_value (register_at number) s

-- the state after a write to the register of the number
abbrev pub written_at : Option Register → ℕ → State → State
written_at None value s = s
written_at (Some register) value s = record s { csr = csr_written register value s.csr }

-- The value that CSRRS, CSRRC and their immediate forms set and clear bits in, where the register reads as the value
-- given: bit 9 of mip is then the software bit alone (section 3.1.9).
abbrev pub modify_base : State → ℕ → ℕ → ℕ
modify_base s number value = if number == CSR_MIP then with_bits (2 ^ SEI) s.csr.mip value else value
