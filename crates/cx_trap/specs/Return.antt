-- Return from a trap (Privileged 1.12, section 3.3.2 for the instructions, 3.1.6.1 and 3.1.6.3 for the fields, 3.1.6.5
-- for TSR).
use Rattle.std.specs.Prelude.{ℕ, ◌+◌, ◌*◌, ◌^◌, Bool, not, ◌==◌, ◌&&◌, ◌||◌, if◌then◌else◌}
use Rattle.std.specs.Int.{bit_at}
use Rattle.cx_csr.specs.declared.state.State.{State}
use Rattle.cx_csr.specs.Bits.{is_set, previous_of_machine, with_bits}
use Rattle.cx_csr.specs.declared.modes.TheConstants.{SUPERVISOR, MACHINE}
use Rattle.cx_csr.specs.declared.status.TheConstants.{SIE, MIE, SPIE, MPIE, SPP, TSR, MACHINE_TRAP_FIELDS}
use Rattle.cx_csr.specs.declared.status.TheConstants.{MACHINE_RETURN_FIELDS, SUPERVISOR_RETURN_FIELDS}

-- MRET is legal in machine mode.
abbrev pub can_mret : State → Bool
can_mret s = s.mode == MACHINE

-- SRET is legal in machine mode, and in supervisor mode where TSR is 0.
abbrev pub can_sret : State → Bool
can_sret s = s.mode == MACHINE || (s.mode == SUPERVISOR && not (is_set s.csr.mstatus TSR))

-- SPP, the mode before the last trap to supervisor mode
abbrev pub previous_of_supervisor : ℕ → ℕ
previous_of_supervisor status = bit_at status SPP

-- mstatus: MIE := MPIE, MPIE := 1, MPP := 0, and MPRV := 0 where the mode returned to isn't machine mode
abbrev pub status_out_of_machine : ℕ → ℕ
status_out_of_machine status =
    with_bits (if previous_of_machine status == MACHINE then MACHINE_TRAP_FIELDS else MACHINE_RETURN_FIELDS)
    (bit_at status MPIE * 2 ^ MIE + 2 ^ MPIE) status

-- mstatus: SIE := SPIE, SPIE := 1, SPP := 0 and MPRV := 0
abbrev pub status_out_of_supervisor : ℕ → ℕ
status_out_of_supervisor status =
    with_bits SUPERVISOR_RETURN_FIELDS (bit_at status SPIE * 2 ^ SIE + 2 ^ SPIE) status

-- the state after MRET
unfoldable pub after_mret : State → State
after_mret s = record s {
  pc = s.csr.mepc;
  mode = previous_of_machine s.csr.mstatus;
  csr = record s.csr { mstatus = status_out_of_machine s.csr.mstatus };
}

-- the state after SRET
unfoldable pub after_sret : State → State
after_sret s = record s {
  pc = s.csr.sepc;
  mode = previous_of_supervisor s.csr.mstatus;
  csr = record s.csr { mstatus = status_out_of_supervisor s.csr.mstatus };
}
