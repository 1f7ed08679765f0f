-- What an instruction leaves fits: a register and its value, and the next pc.
use Rattle.std.proofs.Common.{◌≡◌, ℕ, zero, suc, ℤ, pos, negsuc, ◌+◌, ◌-◌, ◌*◌, ◌/◌, ◌%◌, ◌^◌, ◌<◌, ◌≤◌, ◌*ℤ◌, Bool}
use Rattle.std.proofs.Common.{true, false, cond, min, max, nat_eq, nat_lt, bit_and, Option, None, Some, Result, Ok, Err}
use Rattle.std.proofs.Common.{refl, arith, w32}
use borrow.Author.Tests.{eqb-true, ltb-false, ltb-true}
use Rattle.std.specs.Prelude.{unsigned_abs, neg_ℤ}
use Rattle.std.specs.Int.{cast_unsigned, int_shr}
use Rattle.std.specs.Int.RustNames.{int_div, int_rem}
use Rattle.std.proofs.Math.Nat.{div-le_self, mod-le, mul-le-mul}
use Rattle.std.proofs.lemmas.Int.{unsigned_abs-mul}
use Rattle.std.proofs.lemmas.Nat.{and_le_l, or_of_32, xor_of_32}
use Rattle.cx_csr.specs.Rules.{IsAligned}
use Rattle.cx_decode.specs.Operands.{sign_extended}
use Rattle.cx_decode.specs.declared.op.Op.{Op}
use Rattle.cx_decode.specs.declared.op.Op.TheVariants.{Lui, Auipc, Jal, Jalr, Beq, Bne, Blt, Bge, Bltu, Bgeu, Lb, Lh}
use Rattle.cx_decode.specs.declared.op.Op.TheVariants.{Lw, Lbu, Lhu, Sb, Sh, Sw, Addi, Slti, Sltiu, Xori, Ori, Andi}
use Rattle.cx_decode.specs.declared.op.Op.TheVariants.{Slli, Srli, Srai, Add, Sub, Sll, Slt, Sltu, Xor, Srl, Sra, Or}
use Rattle.cx_decode.specs.declared.op.Op.TheVariants.{And, Mul, Mulh, Mulhsu, Mulhu, Div, Divu, Rem, Remu, Csrrw}
use Rattle.cx_decode.specs.declared.op.Op.TheVariants.{Csrrs, Csrrc, Csrrwi, Csrrsi, Csrrci, LrW, ScW, AmoswapW}
use Rattle.cx_decode.specs.declared.op.Op.TheVariants.{AmoaddW, AmoxorW, AmoandW, AmoorW, AmominW, AmomaxW, AmominuW}
use Rattle.cx_decode.specs.declared.op.Op.TheVariants.{AmomaxuW}
use Rattle.cx_exec.specs.Arithmetic.{shifted_right_signed, signed, truth, upper_half, wrapped}
use Rattle.cx_exec.specs.Effect.{branches, concludes, effect, even, following, gives, goes, jumps, passes, row_effect}
use Rattle.cx_exec.specs.Effect.{stores, swaps}
use Rattle.cx_exec.specs.declared.effect.Effect.{Effect}
use Rattle.cx_exec.specs.declared.effect.Misaligned.{Misaligned}
use Rattle.cx_exec.specs.declared.values.Values.{Values}

-- the values that an instruction works on are those of registers of 32 bits
pub record InRange (v : Values) : Type 0 where
  pub rd : v.rd < 32
  pub a : v.a < 2 ^ 32
  pub b : v.b < 2 ^ 32
  pub imm : v.imm < 2 ^ 32
  pub got : v.got < 2 ^ 32
  pub pc : IsAligned v.pc

pub record IsEffect (e : Effect) : Type 0 where
  pub rd : e.rd < 32
  pub value : e.value < 2 ^ 32
  pub pc : IsAligned e.pc

-- ---- values

wrapped_fits : (n : ℕ) → wrapped n < 2 ^ 32
wrapped_fits n = omega arith

truth_fits : (b : Bool) → truth b < 2 ^ 32
truth_fits true = omega arith
truth_fits false = omega arith

-- ---- signed values, by their absolute values

cast_fits : (z : ℤ) → unsigned_abs z < 2 ^ 32 → cast_unsigned w32 z < 2 ^ 32
cast_fits (pos n) small = small
cast_fits (negsuc n) small = omega arith

upper_fits : (z : ℤ) → unsigned_abs z < 2 ^ 64 → upper_half z < 2 ^ 32
upper_fits (pos n) small = omega arith
upper_fits (negsuc n) small = omega arith

abs_by : (a : ℕ) (b : Bool) → nat_lt a (2 ^ 31) ≡ b → a < 2 ^ 32 → unsigned_abs (signed a) ≤ 2 ^ 31
abs_by a true e fits = let small : a < 2 ^ 31 = ltb-true _ _ e in rw e (omega arith)
abs_by a false e fits = let large : 2 ^ 31 ≤ a = ltb-false _ _ e in rw e (omega arith)

abs_signed : (a : ℕ) → a < 2 ^ 32 → unsigned_abs (signed a) ≤ 2 ^ 31
abs_signed a fits = abs_by a (nat_lt a (2 ^ 31)) refl fits

abs_neg : (n : ℕ) → unsigned_abs (neg_ℤ (pos n)) ≡ n
abs_neg zero = refl
abs_neg (suc n) = refl

abs_shift : (z : ℤ) (k : ℕ) → unsigned_abs (int_shr z k) ≤ unsigned_abs z
abs_shift (pos n) k = let h : n / 2 ^ k ≤ n = div-le_self n (2 ^ k) in h
abs_shift (negsuc n) k = let h : n / 2 ^ k ≤ n = div-le_self n (2 ^ k) in omega arith

abs_quotient : (x y : ℤ) → unsigned_abs (int_div x y) ≤ unsigned_abs x
abs_quotient (pos a) (pos b) = div-le_self a b
abs_quotient (pos a) (negsuc b) = let h : a / suc b ≤ a = div-le_self a (suc b) in omega (arith, abs_neg (a / suc b))
abs_quotient (negsuc a) (pos b) = let h : suc a / b ≤ suc a = div-le_self (suc a) b in
    omega (arith, abs_neg (suc a / b))
abs_quotient (negsuc a) (negsuc b) = div-le_self (suc a) (suc b)

abs_remainder : (x y : ℤ) → unsigned_abs (int_rem x y) ≤ unsigned_abs x
abs_remainder (pos a) d = mod-le a (unsigned_abs d)
abs_remainder (negsuc a) d = let h : suc a % unsigned_abs d ≤ suc a = mod-le (suc a) (unsigned_abs d) in
    omega (arith, abs_neg (suc a % unsigned_abs d))

shift_fits : (a k : ℕ) → a < 2 ^ 32 → shifted_right_signed a k < 2 ^ 32
shift_fits a k fits = cast_fits (int_shr (signed a) k) (omega (arith, abs_shift (signed a) k, abs_signed a fits))

quotient_fits : (a b : ℕ) → a < 2 ^ 32 → cast_unsigned w32 (int_div (signed a) (signed b)) < 2 ^ 32
quotient_fits a b fits =
    cast_fits (int_div (signed a) (signed b)) (omega (arith, abs_quotient (signed a) (signed b), abs_signed a fits))

remainder_fits : (a b : ℕ) → a < 2 ^ 32 → cast_unsigned w32 (int_rem (signed a) (signed b)) < 2 ^ 32
remainder_fits a b fits =
    cast_fits (int_rem (signed a) (signed b)) (omega (arith, abs_remainder (signed a) (signed b), abs_signed a fits))

product_fits : (x y : ℤ) → unsigned_abs x ≤ 2 ^ 32 - 1 → unsigned_abs y ≤ 2 ^ 32 - 1 → upper_half (x *ℤ y) < 2 ^ 32
product_fits x y one two =
    let h : unsigned_abs x * unsigned_abs y ≤ (2 ^ 32 - 1) * (2 ^ 32 - 1) = mul-le-mul one two in
    upper_fits (x *ℤ y) (omega (arith, unsigned_abs-mul x y))

wide_fits : (a b : ℕ) → a < 2 ^ 32 → b < 2 ^ 32 → upper_half (pos (a * b)) < 2 ^ 32
wide_fits a b one two =
    let h : a * b ≤ (2 ^ 32 - 1) * (2 ^ 32 - 1) = mul-le-mul (le_pred a one) (le_pred b two) in
    upper_fits (pos (a * b)) (omega arith)
  where
    le_pred : (n : ℕ) → n < 2 ^ 32 → n ≤ 2 ^ 32 - 1
    le_pred n fits = omega arith

either_fits : (b : Bool) (x y : ℕ) → x < 2 ^ 32 → y < 2 ^ 32 → cond b x y < 2 ^ 32
either_fits true x y one two = one
either_fits false x y one two = two

and_fits : (x y : ℕ) → x < 2 ^ 32 → bit_and x y < 2 ^ 32
and_fits x y fits = omega (arith, and_le_l x y)

divided_fits : (x y : ℕ) → x < 2 ^ 32 → x / y < 2 ^ 32
divided_fits x y fits = omega arith

rest_fits : (x y : ℕ) → x < 2 ^ 32 → x % y < 2 ^ 32
rest_fits x y fits = omega arith

byte_fits : (n : ℕ) → sign_extended 8 (n % 2 ^ 8) < 2 ^ 32
byte_fits n = either_fits (nat_lt (n % 2 ^ 8) (2 ^ 7)) (n % 2 ^ 8) (n % 2 ^ 8 + (2 ^ 32 - 2 ^ 8)) (omega arith)
    (omega arith)

half_fits : (n : ℕ) → sign_extended 16 (n % 2 ^ 16) < 2 ^ 32
half_fits n = either_fits (nat_lt (n % 2 ^ 16) (2 ^ 15)) (n % 2 ^ 16) (n % 2 ^ 16 + (2 ^ 32 - 2 ^ 16)) (omega arith)
    (omega arith)

min_fits : (x y : ℕ) → x < 2 ^ 32 → min x y < 2 ^ 32
min_fits x y fits = omega arith

max_fits : (x y : ℕ) → x < 2 ^ 32 → y < 2 ^ 32 → max x y < 2 ^ 32
max_fits x y one two = omega arith

-- ---- kinds of effects

-- an effect, or a misaligned target
abbrev pub IsOutcome : Result Effect Misaligned → Type 0
IsOutcome (Ok e) = IsEffect e
IsOutcome (Err misaligned) = misaligned.target < 2 ^ 32

module _ (v : Values) (ok : InRange v) where
  following_aligned : IsAligned (following v)
  following_aligned = let m : v.pc % 4 ≡ 0 = ok.pc.multiple in record { wide = omega arith; multiple = omega arith }

  none_fits : (w : Option ℕ) → IsOutcome (effect 0 0 (following v) w)
  none_fits w = record { rd = omega arith; value = omega arith; pc = following_aligned }

  passes_fits : IsOutcome (passes v)
  passes_fits = none_fits None

  gives_fits : (value : ℕ) → value < 2 ^ 32 → IsOutcome (gives v value)
  gives_fits value fits = record { rd = ok.rd; value = fits; pc = following_aligned }

  stores_fits : (value : ℕ) → IsOutcome (stores v value)
  stores_fits value = none_fits (Some value)

  swaps_fits : (value : ℕ) → IsOutcome (swaps v value)
  swaps_fits value = record { rd = ok.rd; value = ok.got; pc = following_aligned }

  concludes_fits : (b : Bool) → IsOutcome (concludes v b)
  concludes_fits true = record { rd = ok.rd; value = omega arith; pc = following_aligned }
  concludes_fits false = record { rd = ok.rd; value = omega arith; pc = following_aligned }

  goes_by : (rd value target : ℕ) (b : Bool) → nat_eq (target % 4) 0 ≡ b → rd < 32 → value < 2 ^ 32 → target < 2 ^ 32
      → IsOutcome (goes rd value target)
  goes_by rd value target true e small fits wide =
      rw e (record { rd = small; value = fits; pc = record { wide = wide; multiple = eqb-true _ _ e } })
  goes_by rd value target false e small fits wide = rw e wide

  goes_fits : (rd value target : ℕ) → rd < 32 → value < 2 ^ 32 → target < 2 ^ 32 → IsOutcome (goes rd value target)
  goes_fits rd value target = goes_by rd value target (nat_eq (target % 4) 0) refl

  jumps_fits : (target : ℕ) → target < 2 ^ 32 → IsOutcome (jumps v target)
  jumps_fits target = goes_fits v.rd (following v) target ok.rd following_aligned.wide

  branches_fits : (b : Bool) → IsOutcome (branches v b)
  branches_fits true = goes_fits 0 0 (wrapped (v.pc + v.imm)) (omega arith) (omega arith) (omega arith)
  branches_fits false = passes_fits

  pub row_fits : (op : Op) → IsOutcome (row_effect op v)
  row_fits Lui = gives_fits _ ok.imm
  row_fits Auipc = gives_fits _ (wrapped_fits _)
  row_fits Jal = jumps_fits _ (wrapped_fits _)
  row_fits Jalr = jumps_fits (even (wrapped (v.a + v.imm))) (omega arith)
  row_fits Beq = branches_fits _
  row_fits Bne = branches_fits _
  row_fits Blt = branches_fits _
  row_fits Bge = branches_fits _
  row_fits Bltu = branches_fits _
  row_fits Bgeu = branches_fits _
  row_fits Lb = gives_fits _ (byte_fits v.got)
  row_fits Lh = gives_fits _ (half_fits v.got)
  row_fits Lw = gives_fits _ ok.got
  row_fits Lbu = gives_fits (v.got % 2 ^ 8) (omega arith)
  row_fits Lhu = gives_fits (v.got % 2 ^ 16) (omega arith)
  row_fits Sb = stores_fits _
  row_fits Sh = stores_fits _
  row_fits Sw = stores_fits _
  row_fits Addi = gives_fits _ (wrapped_fits _)
  row_fits Slti = gives_fits _ (truth_fits _)
  row_fits Sltiu = gives_fits _ (truth_fits _)
  row_fits Xori = gives_fits _ (xor_of_32 v.a v.imm ok.a ok.imm)
  row_fits Ori = gives_fits _ (or_of_32 v.a v.imm ok.a ok.imm)
  row_fits Andi = gives_fits _ (and_fits v.a v.imm ok.a)
  row_fits Slli = gives_fits _ (wrapped_fits _)
  row_fits Srli = gives_fits _ (divided_fits v.a _ ok.a)
  row_fits Srai = gives_fits _ (shift_fits v.a v.imm ok.a)
  row_fits Add = gives_fits _ (wrapped_fits _)
  row_fits Sub = gives_fits _ (wrapped_fits _)
  row_fits Sll = gives_fits _ (wrapped_fits _)
  row_fits Slt = gives_fits _ (truth_fits _)
  row_fits Sltu = gives_fits _ (truth_fits _)
  row_fits Xor = gives_fits _ (xor_of_32 v.a v.b ok.a ok.b)
  row_fits Srl = gives_fits _ (divided_fits v.a _ ok.a)
  row_fits Sra = gives_fits _ (shift_fits v.a (v.b % 32) ok.a)
  row_fits Or = gives_fits _ (or_of_32 v.a v.b ok.a ok.b)
  row_fits And = gives_fits _ (and_fits v.a v.b ok.a)
  row_fits Mul = gives_fits _ (wrapped_fits _)
  row_fits Mulh = gives_fits _ (product_fits (signed v.a) (signed v.b) (omega (arith, abs_signed v.a ok.a))
      (omega (arith, abs_signed v.b ok.b)))
  row_fits Mulhsu = gives_fits _ (product_fits (signed v.a) (pos v.b) (omega (arith, abs_signed v.a ok.a))
      (omega (arith, ok.b)))
  row_fits Mulhu = gives_fits _ (wide_fits v.a v.b ok.a ok.b)
  row_fits Div = gives_fits _ (either_fits (nat_eq v.b 0) (2 ^ 32 - 1) _ (omega arith) (quotient_fits v.a v.b ok.a))
  row_fits Divu = gives_fits _ (either_fits (nat_eq v.b 0) (2 ^ 32 - 1) _ (omega arith) (divided_fits v.a v.b ok.a))
  row_fits Rem = gives_fits _ (either_fits (nat_eq v.b 0) v.a _ ok.a (remainder_fits v.a v.b ok.a))
  row_fits Remu = gives_fits _ (either_fits (nat_eq v.b 0) v.a _ ok.a (rest_fits v.a v.b ok.a))
  row_fits Csrrw = gives_fits _ ok.got
  row_fits Csrrs = gives_fits _ ok.got
  row_fits Csrrc = gives_fits _ ok.got
  row_fits Csrrwi = gives_fits _ ok.got
  row_fits Csrrsi = gives_fits _ ok.got
  row_fits Csrrci = gives_fits _ ok.got
  row_fits LrW = gives_fits _ ok.got
  row_fits ScW = concludes_fits _
  row_fits AmoswapW = swaps_fits _
  row_fits AmoaddW = swaps_fits _
  row_fits AmoxorW = swaps_fits _
  row_fits AmoandW = swaps_fits _
  row_fits AmoorW = swaps_fits _
  row_fits AmominW = swaps_fits _
  row_fits AmomaxW = swaps_fits _
  row_fits AmominuW = swaps_fits _
  row_fits AmomaxuW = swaps_fits _
  row_fits op = passes_fits
