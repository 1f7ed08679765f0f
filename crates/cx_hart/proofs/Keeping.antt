-- A step keeps the rules of the state, the length of memory and the range of its bytes.
use Rattle.std.proofs.Common.{◌≡◌, ℕ, ◌^◌, ◌<◌, Bool, true, false, cond, nat_eq, List, length, set, get_or, All, IfSome}
use Rattle.std.proofs.Common.{IsTrue, refl, sym, ◌∙◌, arith, length-set}
use Rattle.std.specs.Prelude.{slice_index, slice_set}
use borrow.Author.Tests.{eqb-false, eqb-true}
use Rattle.std.proofs.lemmas.List.{get_or-set_other, get_or-set_same}
use Rattle.cx_csr.specs.declared.state.State.{State}
use Rattle.cx_csr.specs.Keeps.{Keeps}
use Rattle.cx_csr.specs.Rules.{IsAligned, IsPlace}
use Rattle.cx_csr.specs.Table.{register_at}
use Rattle.cx_csr.proofs.KeptRules.{keeps-written_at}
use Rattle.cx_trap.specs.Causes.{is_cause}
use Rattle.cx_trap.specs.Enter.{entered}
use Rattle.cx_trap.proofs.KeptRules.{keeps-after_mret, keeps-after_sret, keeps-entered}
use Rattle.cx_hart.specs.After.{after_control, after_effect, after_retired, after_trap}
use Rattle.cx_hart.specs.Counters.{counted, with_cycle, with_retired, writes_cycle, writes_retired}
use Rattle.cx_hart.specs.declared.findings.Control.{Control}
use Rattle.cx_hart.specs.declared.findings.Control.TheVariants.{Untouched, Write, Mret, Sret}
use Rattle.cx_hart.specs.declared.findings.Retired.{Retired}
use Rattle.cx_hart.proofs.Keepable.{FitsControl, IsKeepable}

-- ---- counters

counted_fits : (written : Bool) (n : ℕ) → n < 2 ^ 64 → counted written n < 2 ^ 64
counted_fits true n small = small
counted_fits false n small = omega arith

keeps_cycle : (pages : ℕ) (c : Control) (s : State) → Keeps pages s → Keeps pages (with_cycle c s)
keeps_cycle pages c s k =
    let count : counted (writes_cycle c) s.csr.mcycle < 2 ^ 64 = counted_fits (writes_cycle c) s.csr.mcycle k.csr.mcycle
    in
    let csr = k.csr in
    record {
      pc = k.pc;
      registers = k.registers;
      zero_register = k.zero_register;
      wide = k.wide;
      mode = k.mode;
      csr = assumption (count);
      reservation = k.reservation;
      lines = k.lines;
    }

keeps_retired : (pages : ℕ) (c : Control) (s : State) → Keeps pages s → Keeps pages (with_retired c s)
keeps_retired pages c s k =
    let count : counted (writes_retired c) s.csr.minstret < 2 ^ 64 =
    counted_fits (writes_retired c) s.csr.minstret k.csr.minstret in
    let csr = k.csr in
    record {
      pc = k.pc;
      registers = k.registers;
      zero_register = k.zero_register;
      wide = k.wide;
      mode = k.mode;
      csr = assumption (count);
      reservation = k.reservation;
      lines = k.lines;
    }

pub keeps_trap : (pages cause tval : ℕ) (s : State) → IsTrue (is_cause cause) → tval < 2 ^ 32 → Keeps pages s
    → Keeps pages (after_trap cause tval s)
unfolding after_trap
keeps_trap pages cause tval s is small k = keeps_cycle pages Untouched (entered cause tval s)
    (keeps-entered pages cause tval s is small k)

-- ---- an instruction

keeps_control : (pages : ℕ) (c : Control) (s : State) → FitsControl c → Keeps pages s → Keeps pages (after_control c s)
keeps_control pages Untouched s fits k = k
keeps_control pages (Write number value) s fits k = keeps-written_at pages (register_at number) value s fits k
keeps_control pages Mret s fits k = keeps-after_mret pages s k
keeps_control pages Sret s fits k = keeps-after_sret pages s k

-- the registers once one of them is written
record IsRegisters (x : List ℕ) : Type 0 where
  pub size : length x ≡ 32
  pub first : slice_index x 0 ≡ 0
  pub wide : All (λ v. v < 2 ^ 32) x

set_wide_at : (x : List ℕ) (n v k d : ℕ) (b : Bool) → nat_eq k n ≡ b → All (λ w. w < 2 ^ 32) x → v < 2 ^ 32
    → k < length x → get_or (set x n v) k d < 2 ^ 32
set_wide_at x n v k d true e wide small below =
    let same : k ≡ n = eqb-true _ _ e in
    let inside : n < length x = omega arith in
    rw (same, get_or-set_same x n v d inside) small
set_wide_at x n v k d false e wide small below = rw (get_or-set_other x n k v d (eqb-false _ _ e)) (wide k d below)

set_wide : (x : List ℕ) (n v : ℕ) → All (λ w. w < 2 ^ 32) x → v < 2 ^ 32 → All (λ w. w < 2 ^ 32) (slice_set x n v)
set_wide x n v wide small k d below = set_wide_at x n v k d (nat_eq k n) refl wide small
    (omega (arith, length-set x n v))

set_registers : (x : List ℕ) (rd v : ℕ) (b : Bool) → nat_eq rd 0 ≡ b → v < 2 ^ 32 → IsRegisters x
    → IsRegisters (cond b x (slice_set x rd v))
set_registers x rd v true e small is = is
set_registers x rd v false e small is = record {
  size = length-set x rd v ∙ is.size;
  first =
      get_or-set_other x rd 0 v 0 (λ zero_is. eqb-false _ _ e (sym zero_is)) ∙ is.first;
  wide =
      set_wide x rd v is.wide small;
}

keeps_effect : (pages : ℕ) (r : Retired) (s : State) → r.effect.value < 2 ^ 32 → IsAligned r.effect.pc
    → IfSome r.reservation (IsPlace pages) → Keeps pages s → Keeps pages (after_effect r s)
keeps_effect pages r s small pc reservation k =
    let x = set_registers s.x r.effect.rd r.effect.value (nat_eq r.effect.rd 0) refl small
    (record { size = k.registers; first = k.zero_register; wide = k.wide }) in
    record {
      pc = pc;
      registers = x.size;
      zero_register = x.first;
      wide = x.wide;
      mode = k.mode;
      csr = k.csr;
      reservation = reservation;
      lines = k.lines;
    }

pub keeps_after : (pages size : ℕ) (r : Retired) (s : State) → IsKeepable pages size s r → Keeps pages s
    → Keeps pages (after_retired r s)
unfolding after_retired
keeps_after pages size r s is k =
    keeps_retired pages r.control (with_cycle r.control (after_effect r (after_control r.control s)))
    (keeps_cycle pages r.control (after_effect r (after_control r.control s))
    (keeps_effect pages r (after_control r.control s) is.value is.pc is.reservation
    (keeps_control pages r.control s is.control k)))
