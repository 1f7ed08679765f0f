-- Each write leaves the rules of the control registers as they were.
use Rattle.std.proofs.Common.{◌≡◌, ◌≢◌, ℕ, ◌+◌, ◌*◌, ◌/◌, ◌%◌, ◌^◌, ◌<◌, Bool, true, false, eqb, cond, Option, None}
use Rattle.std.proofs.Common.{Some, bit_and, refl, arith}
use Rattle.std.proofs.lemmas.Nat.{and_assoc, and_le_l}
use Rattle.std.proofs.lemmas.Bool.{eqb-false}
use Rattle.std.proofs.lemmas.Grind.{and_high_numeral}
use Rattle.cx_csr.specs.declared.state.State.{State}
use Rattle.cx_csr.specs.declared.state.CsrFile.{CsrFile}
use Rattle.cx_csr.specs.declared.register.Register.{Register}
use Rattle.cx_csr.specs.declared.register.Register.TheVariants.{Sstatus, Sie, Stvec, Scounteren, Sscratch, Sepc, Scause}
use Rattle.cx_csr.specs.declared.register.Register.TheVariants.{Stval, Sip, Satp, Mstatus, Misa, Medeleg, Mideleg, Mie}
use Rattle.cx_csr.specs.declared.register.Register.TheVariants.{Mtvec, Mcounteren, Mscratch, Mepc, Mcause, Mtval, Mip}
use Rattle.cx_csr.specs.declared.register.Register.TheVariants.{Mcycle, Mcycleh, Minstret, Minstreth, Cycle, Cycleh}
use Rattle.cx_csr.specs.declared.register.Register.TheVariants.{Time, Timeh, Instret, Instreth, NoEffect}
use Rattle.cx_csr.specs.Access.{written_at}
use Rattle.cx_csr.specs.Bits.{with_bits}
use Rattle.cx_csr.specs.Keeps.{Keeps, KeepsCsr}
use Rattle.cx_csr.specs.Rules.{IsAligned, IsStatus, IsWithin}
use Rattle.cx_csr.specs.Values.{csr_written}
use Rattle.cx_csr.proofs.Masks.{within_at, within_from_bits, within-and, within-with_bits, and-with_bits_apart}
use Rattle.cx_csr.specs.declared.causes.TheConstants.{DELEGABLE_EXCEPTIONS}
use Rattle.cx_csr.specs.declared.fields.TheConstants.{TVEC_FIELDS, EPC_FIELDS, COUNTEREN_FIELDS}
use Rattle.cx_csr.specs.declared.interrupts.TheConstants.{SSI, SUPERVISOR_INTERRUPTS, ALL_INTERRUPTS}
use Rattle.cx_csr.specs.declared.status.TheConstants.{MPP_FIELD, MPP_RESERVED, SSTATUS_FIELDS, MSTATUS_FIELDS_BUT_MPP}
use Rattle.cx_csr.specs.declared.status.TheConstants.{MSTATUS_FIELDS}

-- mstatus with other fields, but the same MPP
pub status-with_bits : (mask value old : ℕ) → IsWithin MSTATUS_FIELDS mask → mask < 2 ^ 32 → bit_and mask MPP_FIELD ≡ 0
    → IsStatus old → IsStatus (with_bits mask value old)
status-with_bits mask value old within small apart status = record {
  within = within-with_bits MSTATUS_FIELDS mask value old within status.within;
  previous = rw (and-with_bits_apart MPP_FIELD mask value old small (omega arith) apart) status.previous;
}

status-from_test : (value old : ℕ) (test : Bool) → (test ≡ false → bit_and value MPP_FIELD ≢ MPP_RESERVED)
    → IsStatus old → IsStatus (cond test (with_bits MSTATUS_FIELDS_BUT_MPP value old) (bit_and value MSTATUS_FIELDS))
status-from_test value old true other status = status-with_bits MSTATUS_FIELDS_BUT_MPP value old refl (omega arith) refl
    status
status-from_test value old false other status = record {
  within = within-and value MSTATUS_FIELDS;
  previous = rw and_assoc (other refl);
}

aligned-and : (value : ℕ) → value < 2 ^ 32 → IsAligned (bit_and value EPC_FIELDS)
aligned-and value h = let parts = and_high_numeral value 0xfffffffb refl h in record {
  wide = omega (arith, and_le_l value EPC_FIELDS);
  multiple = omega arith;
}

within-within : (part all word : ℕ) → IsWithin all part → IsWithin part word → IsWithin all word
within-within part all word h within =
    within_from_bits all word (λ i. let below = within_at part word i within in let above = within_at all part i h in
    omega arith)

low_fits : (v n : ℕ) → v < 2 ^ 32 → n < 2 ^ 64 → v + n / 2 ^ 32 * 2 ^ 32 < 2 ^ 64
low_fits v n h i = omega arith

high_fits : (v n : ℕ) → v < 2 ^ 32 → n % 2 ^ 32 + v * 2 ^ 32 < 2 ^ 64
high_fits v n h = omega arith

pub csr-written : (r : Register) (v : ℕ) (c : CsrFile) → v < 2 ^ 32 → KeepsCsr c → KeepsCsr (csr_written r v c)
csr-written Sstatus v c h k = assumption (status-with_bits SSTATUS_FIELDS v c.mstatus refl (omega arith) refl k.mstatus)
csr-written Sie v c h k =
    assumption (within-with_bits ALL_INTERRUPTS c.mideleg v c.mie (within-within SUPERVISOR_INTERRUPTS ALL_INTERRUPTS
    c.mideleg refl k.mideleg) k.mie)
csr-written Stvec v c h k = assumption (within-and v TVEC_FIELDS)
csr-written Scounteren v c h k = assumption (within-and v COUNTEREN_FIELDS)
csr-written Sscratch v c h k = assumption (h)
csr-written Sepc v c h k = assumption (aligned-and v h)
csr-written Scause v c h k = assumption (h)
csr-written Stval v c h k = assumption (h)
csr-written Sip v c h k = assumption (within-with_bits SUPERVISOR_INTERRUPTS (bit_and c.mideleg (2 ^ SSI)) v c.mip
    (within-within (2 ^ SSI) SUPERVISOR_INTERRUPTS (bit_and c.mideleg (2 ^ SSI)) refl (within-and c.mideleg (2 ^ SSI)))
    k.mip)
csr-written Satp v c h k = assumption (h)
csr-written Mstatus v c h k =
    assumption (status-from_test v c.mstatus (eqb (bit_and v MPP_FIELD) MPP_RESERVED)
    (eqb-false (bit_and v MPP_FIELD) MPP_RESERVED) k.mstatus)
csr-written Misa v c h k = k
csr-written Medeleg v c h k = assumption (within-and v DELEGABLE_EXCEPTIONS)
csr-written Mideleg v c h k = assumption (within-and v SUPERVISOR_INTERRUPTS)
csr-written Mie v c h k = assumption (within-and v ALL_INTERRUPTS)
csr-written Mtvec v c h k = assumption (within-and v TVEC_FIELDS)
csr-written Mcounteren v c h k = assumption (within-and v COUNTEREN_FIELDS)
csr-written Mscratch v c h k = assumption (h)
csr-written Mepc v c h k = assumption (aligned-and v h)
csr-written Mcause v c h k = assumption (h)
csr-written Mtval v c h k = assumption (h)
csr-written Mip v c h k = assumption (within-and v SUPERVISOR_INTERRUPTS)
csr-written Mcycle v c h k = assumption (low_fits v c.mcycle h k.mcycle)
csr-written Mcycleh v c h k = assumption (high_fits v c.mcycle h)
csr-written Minstret v c h k = assumption (low_fits v c.minstret h k.minstret)
csr-written Minstreth v c h k = assumption (high_fits v c.minstret h)
csr-written Cycle v c h k = k
csr-written Cycleh v c h k = k
csr-written Time v c h k = k
csr-written Timeh v c h k = k
csr-written Instret v c h k = k
csr-written Instreth v c h k = k
csr-written NoEffect v c h k = k

pub keeps-written_at : (pages : ℕ) (r : Option Register) (v : ℕ) (s : State) → v < 2 ^ 32 → Keeps pages s
    → Keeps pages (written_at r v s)
keeps-written_at pages None v s h k = k
keeps-written_at pages (Some r) v s h k = record {
  pc = k.pc;
  registers = k.registers;
  zero_register =
      k.zero_register;
  wide = k.wide;
  mode = k.mode;
  csr = csr-written r v s.csr h k.csr;
  reservation =
      k.reservation;
  lines = k.lines;
}
