-- What a turn finds can be carried out, and keeps the rules of the state.
use Rattle.std.proofs.Common.{◌≡◌, ℕ, zero, suc, ◌+◌, ◌-◌, ◌*◌, ◌%◌, ◌^◌, ◌<◌, ◌≤◌, Bool, true, false, cond, nat_eq}
use Rattle.std.proofs.Common.{nat_lt, List, length, All, Result, Ok, Err, refl, ap, ◌∙◌, arith}
use Rattle.std.specs.Prelude.{slice_index}
use Rattle.std.proofs.lemmas.Nat.{pow-add}
use Rattle.std.proofs.Math.Nat.{mul-le-mul_left, mul-suc, pow-le-pow_right}
use borrow.Author.Tests.{ltb-false, ltb-true}
use Rattle.std.proofs.lemmas.List.{get_or_past}
use Rattle.cx_csr.specs.declared.state.State.{State}
use Rattle.cx_csr.specs.Keeps.{Keeps}
use Rattle.cx_decode.specs.Table.{row_of}
use Rattle.cx_decode.specs.WellFormed.{IsSigned, Spells, WellFormed}
use Rattle.cx_decode.specs.declared.format.Format.{Format}
use Rattle.cx_decode.specs.declared.format.Format.TheVariants.{Register, Immediate, Shift, Store, Branch, Upper, Jump}
use Rattle.cx_decode.specs.declared.format.Format.TheVariants.{Fence, Control, ControlImmediate, Plain, Translation}
use Rattle.cx_decode.specs.declared.format.Format.TheVariants.{Reserve, Atomic}
use Rattle.cx_decode.specs.declared.ins.Ins.{Ins}
use Rattle.cx_exec.specs.Effect.{effect_of}
use Rattle.cx_exec.specs.declared.effect.Effect.{Effect}
use Rattle.cx_exec.specs.declared.effect.Misaligned.{Misaligned}
use Rattle.cx_exec.specs.Values.{got_number, values_of}
use Rattle.cx_exec.specs.declared.got.Got.{Got}
use Rattle.cx_ram.proofs.LoadsAndWrites.{loaded-fits}
use Rattle.cx_map.specs.Bytes.{AreBytes}
use Rattle.cx_map.specs.Map.{ram_index}
use Rattle.cx_hart.specs.Accesses.{joined}
use Rattle.cx_hart.specs.Effects.{effect_or_trap, instruction_effect}
use Rattle.cx_hart.specs.Touches.{part_value}
use Rattle.cx_hart.specs.declared.findings.Part.{Part}
use Rattle.cx_hart.proofs.Effects.{InRange, IsEffect, IsOutcome, row_fits}
use Rattle.cx_hart.proofs.Stops.{Comes}

-- ---- operands

extended_fits : (power imm : ℕ) (b : Bool) → 0 < power → power ≤ 2 ^ 32
    → cond b (imm % power) (imm % power + (2 ^ 32 - power)) ≡ imm → imm < 2 ^ 32
extended_fits power imm true some most e = omega arith
extended_fits power imm false some most e = let h : imm % power < power = omega arith in omega arith

signed_fits : (width imm : ℕ) → 0 < 2 ^ width → 2 ^ width ≤ 2 ^ 32 → IsSigned width imm → imm < 2 ^ 32
signed_fits width imm some most e = extended_fits (2 ^ width) imm (nat_lt (imm % 2 ^ width) (2 ^ (width - 1))) some most
    e

pub formed_rs1 : (f : Format) (rd rs1 rs2 imm : ℕ) → Spells f rd rs1 rs2 imm → rs1 < 32
formed_rs1 Register rd rs1 rs2 imm (a, b, c, d) = b
formed_rs1 Immediate rd rs1 rs2 imm (a, b, c, d) = b
formed_rs1 Shift rd rs1 rs2 imm (a, b, c, d) = b
formed_rs1 Store rd rs1 rs2 imm (a, b, c, d) = b
formed_rs1 Branch rd rs1 rs2 imm (a, b, c, d) = b
formed_rs1 Upper rd rs1 rs2 imm (a, b, c, d) = omega arith
formed_rs1 Jump rd rs1 rs2 imm (a, b, c, d) = omega arith
formed_rs1 Fence rd rs1 rs2 imm (a, b, c, d) = b
formed_rs1 Control rd rs1 rs2 imm (a, b, c, d) = b
formed_rs1 ControlImmediate rd rs1 rs2 imm (a, b, c, d) = b
formed_rs1 Plain rd rs1 rs2 imm (a, b, c, d) = omega arith
formed_rs1 Translation rd rs1 rs2 imm (a, b, c, d) = b
formed_rs1 Reserve rd rs1 rs2 imm (a, b, c, d) = b
formed_rs1 Atomic rd rs1 rs2 imm (a, b, c, d) = b

pub formed_fits : (f : Format) (rd rs1 rs2 imm : ℕ) → Spells f rd rs1 rs2 imm → (rd < 32) × (imm < 2 ^ 32)
formed_fits Register rd rs1 rs2 imm (a, b, c, d) = (a, omega arith)
formed_fits Immediate rd rs1 rs2 imm (a, b, c, d) = (a, signed_fits 12 imm (omega arith) (omega arith) d)
formed_fits Shift rd rs1 rs2 imm (a, b, c, d) = (a, omega arith)
formed_fits Store rd rs1 rs2 imm (a, b, c, d) = (omega arith, signed_fits 12 imm (omega arith) (omega arith) d)
formed_fits Branch rd rs1 rs2 imm (a, b, c, d) = (omega arith, signed_fits 13 imm (omega arith) (omega arith) d.0)
formed_fits Upper rd rs1 rs2 imm (a, b, c, d) = (a, d.0)
formed_fits Jump rd rs1 rs2 imm (a, b, c, d) = (a, signed_fits 21 imm (omega arith) (omega arith) d.0)
formed_fits Fence rd rs1 rs2 imm (a, b, c, d) = (a, omega arith)
formed_fits Control rd rs1 rs2 imm (a, b, c, d) = (a, omega arith)
formed_fits ControlImmediate rd rs1 rs2 imm (a, b, c, d) = (a, omega arith)
formed_fits Plain rd rs1 rs2 imm (a, b, c, d) = (omega arith, omega arith)
formed_fits Translation rd rs1 rs2 imm (a, b, c, d) = (omega arith, omega arith)
formed_fits Reserve rd rs1 rs2 imm (a, b, c, d) = (a, omega arith)
formed_fits Atomic rd rs1 rs2 imm (a, b, c, d) = (a, omega arith)

register_fits_at : (x : List ℕ) (n : ℕ) → All (λ v. v < 2 ^ 32) x → slice_index x n < 2 ^ 32
register_fits_at x n wide = by_place (nat_lt n (length x)) refl
  where
    by_place : (b : Bool) → nat_lt n (length x) ≡ b → slice_index x n < 2 ^ 32
    by_place true e = wide n 0 (ltb-true _ _ e)
    by_place false e = let past : length x ≤ n = ltb-false _ _ e in rw (get_or_past x n 0 past) (omega arith)

pub register_fits : (x : List ℕ) (n : ℕ) (b : Bool) → All (λ v. v < 2 ^ 32) x → cond b 0 (slice_index x n) < 2 ^ 32
register_fits x n true wide = omega arith
register_fits x n false wide = register_fits_at x n wide

-- the values of a well-formed instruction in a state that keeps the rules
pub values_in_range : (pages : ℕ) (s : State) (i : Ins) (got : Got) → Keeps pages s → WellFormed i
    → got_number got < 2 ^ 32 → InRange (values_of i s.pc s.x got)
values_in_range pages s i got k formed small =
    let operands = formed_fits (row_of i.op).format i.rd i.rs1 i.rs2 i.imm formed in
    record {
      rd = operands.0;
      a = register_fits s.x i.rs1 (nat_eq i.rs1 0) k.wide;
      b = register_fits s.x i.rs2 (nat_eq i.rs2 0) k.wide;
      imm = operands.1;
      got = small;
      pc = k.pc;
    }

outcome_comes : (r : Result Effect Misaligned) → IsOutcome r → Comes IsEffect (effect_or_trap r)
outcome_comes (Ok e) is = is
outcome_comes (Err misaligned) is = (refl, is)

pub effect_comes : (pages : ℕ) (s : State) (i : Ins) (got : Got) → Keeps pages s → WellFormed i
    → got_number got < 2 ^ 32 → Comes IsEffect (instruction_effect s i got)
effect_comes pages s i got k formed small =
    outcome_comes (effect_of i s.pc s.x got) (row_fits (values_of i s.pc s.x got)
    (values_in_range pages s i got k formed small) i.op)

-- ---- bytes of RAM

value_fits_in : (memory : List ℕ) (part : Part) → AreBytes memory → part_value memory part < 2 ^ (8 * part.len)
value_fits_in memory part bytes =
    loaded-fits memory (ram_index part.pa) part.len (λ k below. bytes (ram_index part.pa + k))

wider : (n a b : ℕ) → a ≤ b → n < 2 ^ (8 * a) → n < 2 ^ (8 * b)
wider n a b le fits =
    let some : zero < 2 = omega arith in
    let longer : 8 * a ≤ 8 * b = omega arith in
    let more : 2 ^ (8 * a) ≤ 2 ^ (8 * b) = pow-le-pow_right some longer in
    omega arith

two_parts_fit : (low high a b : ℕ) → low < 2 ^ (8 * a) → high < 2 ^ (8 * b)
    → low + 2 ^ (8 * a) * high < 2 ^ (8 * (a + b))
two_parts_fit low high a b one two =
    let sum : 8 * (a + b) ≡ 8 * a + 8 * b = omega arith in
    let whole : 2 ^ (8 * (a + b)) ≡ 2 ^ (8 * a) * 2 ^ (8 * b) = ap (λ n. 2 ^ n) sum ∙ pow-add 2 (8 * a) (8 * b) in
    let below : 2 ^ (8 * a) * suc high ≤ 2 ^ (8 * a) * 2 ^ (8 * b) = mul-le-mul_left (2 ^ (8 * a)) two in
    let step : 2 ^ (8 * a) * suc high ≡ 2 ^ (8 * a) * high + 2 ^ (8 * a) = mul-suc (2 ^ (8 * a)) high in
    rw whole (omega arith)

pub narrow_fits : (memory : List ℕ) (part : Part) → AreBytes memory → part.len ≤ 4 → part_value memory part < 2 ^ 32
narrow_fits memory part bytes most = wider (part_value memory part) part.len 4 most (value_fits_in memory part bytes)

pub joined_fits : (memory : List ℕ) (first more : Part) → AreBytes memory → first.len + more.len ≤ 4
    → joined first (part_value memory first) (part_value memory more) < 2 ^ 32
joined_fits memory first more bytes whole =
    wider (joined first (part_value memory first) (part_value memory more)) (first.len + more.len) 4 whole
    (two_parts_fit (part_value memory first) (part_value memory more) first.len more.len
    (value_fits_in memory first bytes) (value_fits_in memory more bytes))
