-- The control and status registers that this hart has, by number (Privileged 1.12, section 2.2).
use Rattle.std.specs.Prelude.{ℕ, Bool, ◌==◌, ◌&&◌, ◌||◌, nat_le, if◌then◌else◌, Option, None, Some}
use Rattle.cx_csr.specs.declared.register.Register.{Register}
use Rattle.cx_csr.specs.declared.register.Register.TheVariants.{Sstatus, Sie, Stvec, Scounteren, Sscratch, Sepc, Scause}
use Rattle.cx_csr.specs.declared.register.Register.TheVariants.{Stval, Sip, Satp, Mstatus, Misa, Medeleg, Mideleg, Mie}
use Rattle.cx_csr.specs.declared.register.Register.TheVariants.{Mtvec, Mcounteren, Mscratch, Mepc, Mcause, Mtval, Mip}
use Rattle.cx_csr.specs.declared.register.Register.TheVariants.{Mcycle, Mcycleh, Minstret, Minstreth, Cycle, Cycleh}
use Rattle.cx_csr.specs.declared.register.Register.TheVariants.{Time, Timeh, Instret, Instreth, NoEffect}
use Rattle.cx_csr.specs.declared.numbers.TheConstants.{CSR_SSTATUS, CSR_SIE, CSR_STVEC, CSR_SCOUNTEREN, CSR_SENVCFG}
use Rattle.cx_csr.specs.declared.numbers.TheConstants.{CSR_SSCRATCH, CSR_SEPC, CSR_SCAUSE, CSR_STVAL, CSR_SIP, CSR_SATP}
use Rattle.cx_csr.specs.declared.numbers.TheConstants.{CSR_MSTATUS, CSR_MISA, CSR_MEDELEG, CSR_MIDELEG, CSR_MIE}
use Rattle.cx_csr.specs.declared.numbers.TheConstants.{CSR_MTVEC, CSR_MCOUNTEREN, CSR_MENVCFG, CSR_MSTATUSH}
use Rattle.cx_csr.specs.declared.numbers.TheConstants.{CSR_MENVCFGH, CSR_MCOUNTINHIBIT, CSR_MHPMEVENT3, CSR_MHPMEVENT31}
use Rattle.cx_csr.specs.declared.numbers.TheConstants.{CSR_MSCRATCH, CSR_MEPC, CSR_MCAUSE, CSR_MTVAL, CSR_MIP}
use Rattle.cx_csr.specs.declared.numbers.TheConstants.{CSR_PMPCFG0, CSR_PMPCFG3, CSR_PMPADDR0, CSR_PMPADDR15}
use Rattle.cx_csr.specs.declared.numbers.TheConstants.{CSR_MCYCLE, CSR_MINSTRET, CSR_MHPMCOUNTER3, CSR_MHPMCOUNTER31}
use Rattle.cx_csr.specs.declared.numbers.TheConstants.{CSR_MCYCLEH, CSR_MINSTRETH, CSR_MHPMCOUNTER3H}
use Rattle.cx_csr.specs.declared.numbers.TheConstants.{CSR_MHPMCOUNTER31H, CSR_MVENDORID, CSR_MCONFIGPTR, CSR_CYCLE}
use Rattle.cx_csr.specs.declared.numbers.TheConstants.{CSR_TIME, CSR_INSTRET, CSR_HPMCOUNTER3, CSR_HPMCOUNTER31}
use Rattle.cx_csr.specs.declared.numbers.TheConstants.{CSR_CYCLEH, CSR_TIMEH, CSR_INSTRETH, CSR_HPMCOUNTER3H}
use Rattle.cx_csr.specs.declared.numbers.TheConstants.{CSR_HPMCOUNTER31H}

-- the number is one of those from first to last
abbrev pub is_from : ℕ → ℕ → ℕ → Bool
is_from first last n = nat_le first n && nat_le n last

-- the registers that read 0 and keep nothing
unfoldable pub has_no_effect : ℕ → Bool
has_no_effect n =
    n == CSR_SENVCFG || n == CSR_MENVCFG || n == CSR_MENVCFGH || n == CSR_MSTATUSH || n == CSR_MCOUNTINHIBIT
    || is_from CSR_MHPMEVENT3 CSR_MHPMEVENT31 n
    || is_from CSR_PMPCFG0 CSR_PMPCFG3 n || is_from CSR_PMPADDR0 CSR_PMPADDR15 n
    || is_from CSR_MHPMCOUNTER3 CSR_MHPMCOUNTER31 n || is_from CSR_MHPMCOUNTER3H CSR_MHPMCOUNTER31H n
    || is_from CSR_HPMCOUNTER3 CSR_HPMCOUNTER31 n || is_from CSR_HPMCOUNTER3H CSR_HPMCOUNTER31H n
    || is_from CSR_MVENDORID CSR_MCONFIGPTR n

unfoldable pub register_at : ℕ → Option Register
register_at n =
    if n == CSR_SSTATUS then Some Sstatus else
    if n == CSR_SIE then Some Sie else
    if n == CSR_STVEC then Some Stvec else
    if n == CSR_SCOUNTEREN then Some Scounteren else
    if n == CSR_SSCRATCH then Some Sscratch else
    if n == CSR_SEPC then Some Sepc else
    if n == CSR_SCAUSE then Some Scause else
    if n == CSR_STVAL then Some Stval else
    if n == CSR_SIP then Some Sip else
    if n == CSR_SATP then Some Satp else
    if n == CSR_MSTATUS then Some Mstatus else
    if n == CSR_MISA then Some Misa else
    if n == CSR_MEDELEG then Some Medeleg else
    if n == CSR_MIDELEG then Some Mideleg else
    if n == CSR_MIE then Some Mie else
    if n == CSR_MTVEC then Some Mtvec else
    if n == CSR_MCOUNTEREN then Some Mcounteren else
    if n == CSR_MSCRATCH then Some Mscratch else
    if n == CSR_MEPC then Some Mepc else
    if n == CSR_MCAUSE then Some Mcause else
    if n == CSR_MTVAL then Some Mtval else
    if n == CSR_MIP then Some Mip else
    if n == CSR_MCYCLE then Some Mcycle else
    if n == CSR_MCYCLEH then Some Mcycleh else
    if n == CSR_MINSTRET then Some Minstret else
    if n == CSR_MINSTRETH then Some Minstreth else
    if n == CSR_CYCLE then Some Cycle else
    if n == CSR_CYCLEH then Some Cycleh else
    if n == CSR_TIME then Some Time else
    if n == CSR_TIMEH then Some Timeh else
    if n == CSR_INSTRET then Some Instret else
    if n == CSR_INSTRETH then Some Instreth else
    if has_no_effect n then Some NoEffect else
    None
