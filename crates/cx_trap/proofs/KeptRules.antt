-- Entry into a trap and return from it keep the rules of a state.
use Rattle.std.proofs.Common.{None, ◌≢◌, ℕ, zero, suc, ◌+◌, ◌*◌, ◌%◌, ◌^◌, ◌<◌, Bool, true, false, cond, bit_and, refl}
use Rattle.std.proofs.Common.{arith, IsTrue}
use Rattle.std.specs.Prelude.{◌&&◌}
use Rattle.std.specs.Int.{bit_at}
use Rattle.std.proofs.lemmas.Grind.{and_high_numeral}
use Rattle.std.proofs.lemmas.Nat.{and_le_r}
use Rattle.std.proofs.lemmas.Nat.Bits.{and_high, bit_at-lt}
use Rattle.cx_csr.specs.declared.state.State.{State}
use Rattle.cx_csr.specs.Bits.{is_set, previous_of_machine, with_bits}
use Rattle.cx_csr.specs.Keeps.{Keeps}
use Rattle.cx_csr.specs.Rules.{IsAligned, IsMode, IsStatus, IsWithin}
use Rattle.cx_csr.proofs.KeptRules.{status-with_bits}
use Rattle.cx_csr.proofs.Masks.{within-with_bits, and-with_bits_inside}
use Rattle.cx_trap.specs.Causes.{is_cause, is_interrupt, cause_number}
use Rattle.cx_trap.specs.Enter.{entered, into_machine, into_supervisor, is_delegated, delivered, status_into_machine}
use Rattle.cx_trap.specs.Enter.{status_into_supervisor, vector}
use Rattle.cx_trap.specs.Return.{after_mret, after_sret, status_out_of_machine, status_out_of_supervisor}
use Rattle.cx_trap.proofs.PendingCauses.{cause_small}
use Rattle.cx_csr.specs.declared.fields.TheConstants.{TVEC_BASE, TVEC_FIELDS}
use Rattle.cx_csr.specs.declared.status.TheConstants.{SIE, MIE, SPIE, MPIE, SPP, MPP, MPP_FIELD, MPP_RESERVED}
use Rattle.cx_csr.specs.declared.status.TheConstants.{MSTATUS_FIELDS, MACHINE_TRAP_FIELDS, MACHINE_RETURN_FIELDS}
use Rattle.cx_csr.specs.declared.status.TheConstants.{SUPERVISOR_TRAP_FIELDS, SUPERVISOR_RETURN_FIELDS}

-- mstatus with another MPP
status-with_mode : (mask value old : ℕ) → IsWithin MSTATUS_FIELDS mask → mask < 2 ^ 32 → IsWithin mask MPP_FIELD
    → bit_and value MPP_FIELD ≢ MPP_RESERVED → IsStatus old → IsStatus (with_bits mask value old)
status-with_mode mask value old within small inside mode status = record {
  within = within-with_bits MSTATUS_FIELDS mask value old within status.within;
  previous = rw (and-with_bits_inside MPP_FIELD mask value old small inside) mode;
}

-- the field MPP of a mode, beside MPIE
mode_field : (bit mode : ℕ) → bit < 2 → IsMode mode → bit_and (bit * 2 ^ MPIE + mode * 2 ^ MPP) MPP_FIELD ≢ MPP_RESERVED
mode_field zero zero h m = λ e. omega arith
mode_field zero (suc zero) h m = λ e. omega arith
mode_field zero (suc (suc zero)) h m = λ e. m.served refl
mode_field zero (suc (suc (suc zero))) h m = λ e. omega arith
mode_field zero (suc (suc (suc (suc n)))) h m = absurd (omega (arith, m.most))
mode_field (suc zero) zero h m = λ e. omega arith
mode_field (suc zero) (suc zero) h m = λ e. omega arith
mode_field (suc zero) (suc (suc zero)) h m = λ e. m.served refl
mode_field (suc zero) (suc (suc (suc zero))) h m = λ e. omega arith
mode_field (suc zero) (suc (suc (suc (suc n)))) h m = absurd (omega (arith, m.most))
mode_field (suc (suc b)) mode h m = absurd (omega arith)

-- the fields MIE and MPIE alone
enable_field : (bit : ℕ) → bit < 2 → bit_and (bit * 2 ^ MIE + 2 ^ MPIE) MPP_FIELD ≢ MPP_RESERVED
enable_field zero h = λ e. omega arith
enable_field (suc zero) h = λ e. omega arith
enable_field (suc (suc b)) h = absurd (omega arith)

target_aligned : (taken : Bool) (tvec number : ℕ) → tvec < 2 ^ 32
    → IsAligned ((bit_and tvec TVEC_BASE + cond taken (4 * number) 0) % 2 ^ 32)
target_aligned true tvec number h = let parts = and_high_numeral tvec 0xfffffffb refl h in
    record { wide = omega arith; multiple = omega arith }
target_aligned false tvec number h = let parts = and_high_numeral tvec 0xfffffffb refl h in
    record { wide = omega arith; multiple = omega arith }

vector_aligned : (tvec cause : ℕ) → IsWithin TVEC_FIELDS tvec → IsAligned (vector tvec cause)
vector_aligned tvec cause within =
    target_aligned (is_interrupt cause && is_set tvec 0) tvec (cause_number cause)
    (omega (arith, and_le_r tvec TVEC_FIELDS, within))

previous_mode : (status : ℕ) → IsStatus status → IsMode (previous_of_machine status)
previous_mode status kept =
    let field = and_high status 2 11 in
    record { most = omega arith; served = λ two. kept.previous (omega arith) }

keeps-into_machine : (pages cause tval : ℕ) (s : State) → cause < 2 ^ 32 → tval < 2 ^ 32 → Keeps pages s
    → Keeps pages (into_machine cause tval s)
keeps-into_machine pages cause tval s h i k =
    let c = k.csr in
    let status : IsStatus (status_into_machine s.mode s.csr.mstatus) =
    status-with_mode MACHINE_TRAP_FIELDS (bit_at s.csr.mstatus MIE * 2 ^ MPIE + s.mode * 2 ^ MPP) s.csr.mstatus refl
    (omega arith) refl (mode_field (bit_at s.csr.mstatus MIE) s.mode (bit_at-lt s.csr.mstatus MIE) k.mode) c.mstatus
    in
    record {
      pc = vector_aligned s.csr.mtvec cause c.mtvec;
      registers = k.registers;
      zero_register = k.zero_register;
      wide = k.wide;
      mode = record { most = omega arith; served = λ e. cc };
      csr = assumption (status, h, i);
      reservation = k.reservation;
      lines = k.lines;
    }

keeps-into_supervisor : (pages cause tval : ℕ) (s : State) → cause < 2 ^ 32 → tval < 2 ^ 32 → Keeps pages s
    → Keeps pages (into_supervisor cause tval s)
keeps-into_supervisor pages cause tval s h i k =
    let c = k.csr in
    let status : IsStatus (status_into_supervisor s.mode s.csr.mstatus) =
    status-with_bits SUPERVISOR_TRAP_FIELDS (bit_at s.csr.mstatus SIE * 2 ^ SPIE + s.mode * 2 ^ SPP) s.csr.mstatus refl
    (omega arith) refl c.mstatus in
    record {
      pc = vector_aligned s.csr.stvec cause c.stvec;
      registers = k.registers;
      zero_register = k.zero_register;
      wide = k.wide;
      mode = record { most = omega arith; served = λ e. cc };
      csr = assumption (status, h, i);
      reservation = k.reservation;
      lines = k.lines;
    }

keeps-either : (delegated : Bool) (pages cause tval : ℕ) (s : State) → cause < 2 ^ 32 → tval < 2 ^ 32 → Keeps pages s
    → Keeps pages (cond delegated (into_supervisor cause tval s) (into_machine cause tval s))
keeps-either true pages cause tval s h i k = keeps-into_supervisor pages cause tval s h i k
keeps-either false pages cause tval s h i k = keeps-into_machine pages cause tval s h i k

pub keeps-delivered : (pages cause tval : ℕ) (s : State) → cause < 2 ^ 32 → tval < 2 ^ 32 → Keeps pages s
    → Keeps pages (delivered cause tval s)
keeps-delivered pages cause tval s h i k = keeps-either (is_delegated s cause) pages cause tval s h i k

keeps-unreserved : (pages : ℕ) (s : State) → Keeps pages s → Keeps pages (record s { reservation = None })
keeps-unreserved pages s k = assumption (k)

pub keeps-entered : (pages cause tval : ℕ) (s : State) → IsTrue (is_cause cause) → tval < 2 ^ 32 → Keeps pages s
    → Keeps pages (entered cause tval s)
unfolding entered
keeps-entered pages cause tval s h i k =
    keeps-unreserved pages (delivered cause tval s) (keeps-delivered pages cause tval s (cause_small cause h) i k)

status_by_mode : (stays : Bool) (value old : ℕ) → bit_and value MPP_FIELD ≢ MPP_RESERVED → IsStatus old
    → IsStatus (with_bits (cond stays MACHINE_TRAP_FIELDS MACHINE_RETURN_FIELDS) value old)
status_by_mode true value old field status = status-with_mode MACHINE_TRAP_FIELDS value old refl (omega arith) refl
    field status
status_by_mode false value old field status = status-with_mode MACHINE_RETURN_FIELDS value old refl (omega arith) refl
    field status

pub keeps-after_mret : (pages : ℕ) (s : State) → Keeps pages s → Keeps pages (after_mret s)
unfolding after_mret
keeps-after_mret pages s k =
    let c = k.csr in
    let status : IsStatus (status_out_of_machine s.csr.mstatus) =
    status_by_mode _ (bit_at s.csr.mstatus MPIE * 2 ^ MIE + 2 ^ MPIE) s.csr.mstatus
    (enable_field (bit_at s.csr.mstatus MPIE) (bit_at-lt s.csr.mstatus MPIE)) c.mstatus in
    record {
      pc = c.mepc;
      registers = k.registers;
      zero_register = k.zero_register;
      wide = k.wide;
      mode = previous_mode s.csr.mstatus c.mstatus;
      csr = assumption (status);
      reservation = k.reservation;
      lines = k.lines;
    }

pub keeps-after_sret : (pages : ℕ) (s : State) → Keeps pages s → Keeps pages (after_sret s)
unfolding after_sret
keeps-after_sret pages s k =
    let c = k.csr in
    let status : IsStatus (status_out_of_supervisor s.csr.mstatus) =
    status-with_bits SUPERVISOR_RETURN_FIELDS (bit_at s.csr.mstatus SPIE * 2 ^ SIE + 2 ^ SPIE) s.csr.mstatus refl
    (omega arith) refl c.mstatus in
    let bit = bit_at-lt s.csr.mstatus SPP in
    record {
      pc = c.sepc;
      registers = k.registers;
      zero_register = k.zero_register;
      wide = k.wide;
      mode = record { most = omega arith; served = λ two. omega arith };
      csr = assumption (status);
      reservation = k.reservation;
      lines = k.lines;
    }
