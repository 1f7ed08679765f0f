-- What each register reads as, and what a write to it leaves (Privileged 1.12; the sections stand at the lines). The
-- bits that this hart hasn't read 0 and stay 0.
use Rattle.std.specs.Prelude.{ℕ, ◌+◌, ◌*◌, ◌/◌, ◌%◌, ◌^◌, true, false, ◌==◌, if◌then◌else◌}
use Rattle.std.specs.Int.RustNames.{bit_and, bit_or}
use Rattle.cx_csr.specs.declared.state.State.{State}
use Rattle.cx_csr.specs.declared.state.CsrFile.{CsrFile}
use Rattle.cx_csr.specs.declared.access.Csr.{Csr}
use Rattle.cx_csr.specs.declared.access.Csr.TheVariants.{Value}
use Rattle.cx_csr.specs.declared.access.Csr.TheVariants as answers
use Rattle.cx_csr.specs.declared.register.Register.{Register}
use Rattle.cx_csr.specs.declared.register.Register.TheVariants.{Sstatus, Sie, Stvec, Scounteren, Sscratch, Sepc, Scause}
use Rattle.cx_csr.specs.declared.register.Register.TheVariants.{Stval, Sip, Satp, Mstatus, Misa, Medeleg, Mideleg, Mie}
use Rattle.cx_csr.specs.declared.register.Register.TheVariants.{Mtvec, Mcounteren, Mscratch, Mepc, Mcause, Mtval, Mip}
use Rattle.cx_csr.specs.declared.register.Register.TheVariants.{Mcycle, Mcycleh, Minstret, Minstreth, Cycle, Cycleh}
use Rattle.cx_csr.specs.declared.register.Register.TheVariants.{Time, Timeh, Instret, Instreth, NoEffect}
use Rattle.cx_csr.specs.Bits.{with_bits}
use Rattle.cx_csr.specs.declared.causes.TheConstants.{DELEGABLE_EXCEPTIONS}
use Rattle.cx_csr.specs.declared.fields.TheConstants.{TVEC_FIELDS, EPC_FIELDS, COUNTEREN_FIELDS, MISA}
use Rattle.cx_csr.specs.declared.interrupts.TheConstants.{SSI, SUPERVISOR_INTERRUPTS, ALL_INTERRUPTS}
use Rattle.cx_csr.specs.declared.status.TheConstants.{MPP_FIELD, MPP_RESERVED, SSTATUS_FIELDS, MSTATUS_FIELDS_BUT_MPP}
use Rattle.cx_csr.specs.declared.status.TheConstants.{MSTATUS_FIELDS}

-- the interrupts that are pending: the software bits and the lines (section 3.1.9)
abbrev pub pending_bits : State → ℕ
pending_bits s = bit_or s.csr.mip s.lines.0

-- What a register reads as. The two halves of the time are values of the outside.
abbrev pub read_as : Register → State → Csr
read_as Sstatus s = Value (bit_and s.csr.mstatus SSTATUS_FIELDS)  -- 4.1.1: SIE, SPIE, SPP, SUM and MXR of mstatus
read_as Sie s = Value (bit_and s.csr.mie s.csr.mideleg)  -- 4.1.3
read_as Stvec s = Value s.csr.stvec  -- 4.1.2
read_as Scounteren s = Value s.csr.scounteren  -- 4.1.5
read_as Sscratch s = Value s.csr.sscratch  -- 4.1.6
read_as Sepc s = Value s.csr.sepc  -- 4.1.7
read_as Scause s = Value s.csr.scause  -- 4.1.8
read_as Stval s = Value s.csr.stval  -- 4.1.9
read_as Sip s = Value (bit_and (pending_bits s) s.csr.mideleg)  -- 4.1.3
read_as Satp s = Value s.csr.satp  -- 4.1.11
read_as Mstatus s = Value s.csr.mstatus  -- 3.1.6
read_as Misa s = Value MISA  -- 3.1.1
read_as Medeleg s = Value s.csr.medeleg  -- 3.1.8
read_as Mideleg s = Value s.csr.mideleg  -- 3.1.8
read_as Mie s = Value s.csr.mie  -- 3.1.9
read_as Mtvec s = Value s.csr.mtvec  -- 3.1.7
read_as Mcounteren s = Value s.csr.mcounteren  -- 3.1.11
read_as Mscratch s = Value s.csr.mscratch  -- 3.1.13
read_as Mepc s = Value s.csr.mepc  -- 3.1.14
read_as Mcause s = Value s.csr.mcause  -- 3.1.15
read_as Mtval s = Value s.csr.mtval  -- 3.1.16
read_as Mip s = Value (pending_bits s)  -- 3.1.9
read_as Mcycle s = Value (s.csr.mcycle % 2 ^ 32)  -- 3.1.10
read_as Mcycleh s = Value (s.csr.mcycle / 2 ^ 32)
read_as Minstret s = Value (s.csr.minstret % 2 ^ 32)
read_as Minstreth s = Value (s.csr.minstret / 2 ^ 32)
read_as Cycle s = Value (s.csr.mcycle % 2 ^ 32)
read_as Cycleh s = Value (s.csr.mcycle / 2 ^ 32)
read_as Time s = answers.Time false
read_as Timeh s = answers.Time true
read_as Instret s = Value (s.csr.minstret % 2 ^ 32)
read_as Instreth s = Value (s.csr.minstret / 2 ^ 32)
read_as NoEffect s = Value 0

-- mstatus after a write: the value's fields, but the old MPP where the value's is 2, which is no mode (3.1.6)
abbrev pub status_written : ℕ → ℕ → ℕ
status_written value old =
    if bit_and value MPP_FIELD == MPP_RESERVED then with_bits MSTATUS_FIELDS_BUT_MPP value old
    else bit_and value MSTATUS_FIELDS

-- What a write of the value leaves. A write to a register of user mode's counters never comes here.
abbrev pub csr_written : Register → ℕ → CsrFile → CsrFile
csr_written Sstatus v c = record c { mstatus = with_bits SSTATUS_FIELDS v c.mstatus }
csr_written Sie v c = record c { mie = with_bits c.mideleg v c.mie }
csr_written Stvec v c = record c { stvec = bit_and v TVEC_FIELDS }
csr_written Scounteren v c = record c { scounteren = bit_and v COUNTEREN_FIELDS }
csr_written Sscratch v c = record c { sscratch = v }
csr_written Sepc v c = record c { sepc = bit_and v EPC_FIELDS }
csr_written Scause v c = record c { scause = v }
csr_written Stval v c = record c { stval = v }
csr_written Sip v c = record c { mip = with_bits (bit_and c.mideleg (2 ^ SSI)) v c.mip }
csr_written Satp v c = record c { satp = v }
csr_written Mstatus v c = record c { mstatus = status_written v c.mstatus }
csr_written Misa v c = c
csr_written Medeleg v c = record c { medeleg = bit_and v DELEGABLE_EXCEPTIONS }
csr_written Mideleg v c = record c { mideleg = bit_and v SUPERVISOR_INTERRUPTS }
csr_written Mie v c = record c { mie = bit_and v ALL_INTERRUPTS }
csr_written Mtvec v c = record c { mtvec = bit_and v TVEC_FIELDS }
csr_written Mcounteren v c = record c { mcounteren = bit_and v COUNTEREN_FIELDS }
csr_written Mscratch v c = record c { mscratch = v }
csr_written Mepc v c = record c { mepc = bit_and v EPC_FIELDS }
csr_written Mcause v c = record c { mcause = v }
csr_written Mtval v c = record c { mtval = v }
csr_written Mip v c = record c { mip = bit_and v SUPERVISOR_INTERRUPTS }
csr_written Mcycle v c = record c { mcycle = v + c.mcycle / 2 ^ 32 * 2 ^ 32 }
csr_written Mcycleh v c = record c { mcycle = c.mcycle % 2 ^ 32 + v * 2 ^ 32 }
csr_written Minstret v c = record c { minstret = v + c.minstret / 2 ^ 32 * 2 ^ 32 }
csr_written Minstreth v c = record c { minstret = c.minstret % 2 ^ 32 + v * 2 ^ 32 }
csr_written Cycle v c = c
csr_written Cycleh v c = c
csr_written Time v c = c
csr_written Timeh v c = c
csr_written Instret v c = c
csr_written Instreth v c = c
csr_written NoEffect v c = c
