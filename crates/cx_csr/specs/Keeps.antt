-- The rules that a state keeps, for RAM of a number of pages.
use Rattle.std.specs.Prelude.{◌≡◌, ℕ, ◌^◌, ◌<◌, length, All, IfSome, slice_index}
use Rattle.cx_csr.specs.declared.state.State.{State}
use Rattle.cx_csr.specs.declared.state.CsrFile.{CsrFile}
use Rattle.cx_csr.specs.Rules.{IsAligned, IsWithin, IsMode, IsStatus, IsPlace}
use Rattle.cx_csr.specs.declared.causes.TheConstants.{DELEGABLE_EXCEPTIONS}
use Rattle.cx_csr.specs.declared.fields.TheConstants.{TVEC_FIELDS, COUNTEREN_FIELDS}
use Rattle.cx_csr.specs.declared.interrupts.TheConstants.{SUPERVISOR_INTERRUPTS, ALL_INTERRUPTS, LINE_INTERRUPTS}

-- Each control register has what a write could have left there.
pub record KeepsCsr (csr : CsrFile) : Type 0 where
  pub mstatus : IsStatus csr.mstatus
  pub medeleg : IsWithin DELEGABLE_EXCEPTIONS csr.medeleg
  pub mideleg : IsWithin SUPERVISOR_INTERRUPTS csr.mideleg
  pub mie : IsWithin ALL_INTERRUPTS csr.mie
  pub mip : IsWithin SUPERVISOR_INTERRUPTS csr.mip
  pub mtvec : IsWithin TVEC_FIELDS csr.mtvec
  pub mcounteren : IsWithin COUNTEREN_FIELDS csr.mcounteren
  pub mscratch : csr.mscratch < 2 ^ 32
  pub mepc : IsAligned csr.mepc
  pub mcause : csr.mcause < 2 ^ 32
  pub mtval : csr.mtval < 2 ^ 32
  pub stvec : IsWithin TVEC_FIELDS csr.stvec
  pub scounteren : IsWithin COUNTEREN_FIELDS csr.scounteren
  pub sscratch : csr.sscratch < 2 ^ 32
  pub sepc : IsAligned csr.sepc
  pub scause : csr.scause < 2 ^ 32
  pub stval : csr.stval < 2 ^ 32
  pub satp : csr.satp < 2 ^ 32
  pub mcycle : csr.mcycle < 2 ^ 64
  pub minstret : csr.minstret < 2 ^ 64

pub record Keeps (pages : ℕ) (s : State) : Type 0 where
  pub pc : IsAligned s.pc
  pub registers : length s.x ≡ 32
  pub zero_register : slice_index s.x 0 ≡ 0
  pub wide : All (λ v. v < 2 ^ 32) s.x
  pub mode : IsMode s.mode
  pub csr : KeepsCsr s.csr
  pub reservation : IfSome s.reservation (IsPlace pages)
  pub lines : IsWithin LINE_INTERRUPTS s.lines.0
