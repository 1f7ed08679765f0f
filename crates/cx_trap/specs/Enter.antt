-- Entry into a trap (Privileged 1.12, sections 3.1.6.1, 3.1.7 and 3.1.8, and 4.1.1 and 4.1.2 for supervisor mode).
use Rattle.std.specs.Prelude.{ℕ, ◌+◌, ◌*◌, ◌%◌, ◌^◌, Bool, ◌&&◌, nat_lt, if◌then◌else◌, None}
use Rattle.std.specs.Int.{bit_at}
use Rattle.std.specs.Int.RustNames.{bit_and}
use Rattle.cx_csr.specs.declared.state.State.{State}
use Rattle.cx_csr.specs.Bits.{is_set, with_bits}
use Rattle.cx_trap.specs.Causes.{is_interrupt, cause_number}
use Rattle.cx_csr.specs.declared.fields.TheConstants.{VECTORED, TVEC_BASE}
use Rattle.cx_csr.specs.declared.modes.TheConstants.{SUPERVISOR, MACHINE}
use Rattle.cx_csr.specs.declared.status.TheConstants.{SIE, MIE, SPIE, MPIE, SPP, MPP, MACHINE_TRAP_FIELDS}
use Rattle.cx_csr.specs.declared.status.TheConstants.{SUPERVISOR_TRAP_FIELDS}

-- A trap goes to supervisor mode where its cause is delegated, but never down from machine mode.
abbrev pub is_delegated : State → ℕ → Bool
is_delegated s cause =
    nat_lt s.mode MACHINE && is_set (if is_interrupt cause then s.csr.mideleg else s.csr.medeleg) (cause_number cause)

-- Where the trap goes: the base of the vector, and for an interrupt in vectored mode four bytes on for each number.
abbrev pub vector : ℕ → ℕ → ℕ
vector tvec cause =
    (bit_and tvec TVEC_BASE + (if is_interrupt cause && is_set tvec VECTORED then 4 * cause_number cause else 0)) % 2 ^
    32

-- mstatus: MPIE := MIE, MIE := 0, MPP := mode
abbrev pub status_into_machine : ℕ → ℕ → ℕ
status_into_machine mode status = with_bits MACHINE_TRAP_FIELDS (bit_at status MIE * 2 ^ MPIE + mode * 2 ^ MPP) status

-- mstatus: SPIE := SIE, SIE := 0, SPP := mode
abbrev pub status_into_supervisor : ℕ → ℕ → ℕ
status_into_supervisor mode status = with_bits SUPERVISOR_TRAP_FIELDS (bit_at status SIE * 2 ^ SPIE + mode * 2 ^ SPP)
    status

abbrev pub into_machine : ℕ → ℕ → State → State
into_machine cause tval s = record s {
  pc = vector s.csr.mtvec cause;
  mode = MACHINE;
  csr = record s.csr { mstatus = status_into_machine s.mode s.csr.mstatus; mepc = s.pc; mcause = cause; mtval = tval };
}

abbrev pub into_supervisor : ℕ → ℕ → State → State
into_supervisor cause tval s = record s {
  pc = vector s.csr.stvec cause;
  mode = SUPERVISOR;
  csr = record s.csr {
    mstatus = status_into_supervisor s.mode s.csr.mstatus;
    sepc = s.pc;
    scause = cause;
    stval =
        tval;
  };
}

-- the state after the trap was taken, but for the reservation
abbrev pub delivered : ℕ → ℕ → State → State
delivered cause tval s = if is_delegated s cause then into_supervisor cause tval s else into_machine cause tval s

-- The state after the trap was taken. Each trap drops the reservation, which is this hart's own rule.
unfoldable pub entered : ℕ → ℕ → State → State
entered cause tval s = record (delivered cause tval s) { reservation = None }
