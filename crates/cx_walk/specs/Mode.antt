-- Whether an access is translated, and with which privilege.
use Rattle.std.specs.Prelude.{ℕ, Bool, not, ◌&&◌, ◌||◌, ◌==◌, if◌then◌else◌}
use Rattle.cx_csr.specs.Bits.{is_set, previous_of_machine}
use Rattle.cx_csr.specs.declared.state.State.{State}
use Rattle.cx_walk.specs.declared.kind.Kind.{Kind}
use Rattle.cx_walk.specs.Kinds.{is_fetch}
use Rattle.cx_csr.specs.declared.fields.TheConstants.{SATP_MODE}
use Rattle.cx_csr.specs.declared.modes.TheConstants.{MACHINE}
use Rattle.cx_csr.specs.declared.status.TheConstants.{MPRV}

-- MPRV gives data accesses of machine mode the privilege in MPP (section 3.1.6.3). Below machine mode it has no effect.
abbrev pub effective_mode : State → Kind → ℕ
effective_mode s kind =
    if s.mode == MACHINE && (not (is_fetch kind) && is_set s.csr.mstatus MPRV) then previous_of_machine s.csr.mstatus
    else s.mode

-- Machine mode isn't translated, nor any mode where MODE of satp is 0 (section 4.1.11, and 4.3.2, step 1).
abbrev pub is_bare : State → Kind → Bool
is_bare s kind = effective_mode s kind == MACHINE || not (is_set s.csr.satp SATP_MODE)
