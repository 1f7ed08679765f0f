-- What an instruction does with the values that it works on: the value for a register, the next pc and the value
-- stored, or a misaligned target.
use Rattle.std.specs.Prelude.{ℕ, pos, ◌+◌, ◌*◌, ◌/◌, ◌%◌, ◌^◌, ◌*ℤ◌, Bool, not, if◌then◌else◌, ◌==◌, nat_lt, min, max}
use Rattle.std.specs.Prelude.{bit_and, bit_or, bit_xor, List, Option, None, Some, Result, Ok, Err}
use Rattle.cx_decode.specs.Operands.{sign_extended}
use Rattle.cx_decode.specs.declared.ins.Ins.{Ins}
use Rattle.cx_decode.specs.declared.op.Op.{Op}
use Rattle.cx_decode.specs.declared.op.Op.TheVariants.{Lui, Auipc, Jal, Jalr, Beq, Bne, Blt, Bge, Bltu, Bgeu, Lb, Lh}
use Rattle.cx_decode.specs.declared.op.Op.TheVariants.{Lw, Lbu, Lhu, Sb, Sh, Sw, Addi, Slti, Sltiu, Xori, Ori, Andi}
use Rattle.cx_decode.specs.declared.op.Op.TheVariants.{Slli, Srli, Srai, Add, Sub, Sll, Slt, Sltu, Xor, Srl, Sra, Or}
use Rattle.cx_decode.specs.declared.op.Op.TheVariants.{And, Mul, Mulh, Mulhsu, Mulhu, Div, Divu, Rem, Remu, Fence}
use Rattle.cx_decode.specs.declared.op.Op.TheVariants.{FenceI, Ecall, Ebreak, Sret, Mret, Wfi, SfenceVma, Csrrw, Csrrs}
use Rattle.cx_decode.specs.declared.op.Op.TheVariants.{Csrrc, Csrrwi, Csrrsi, Csrrci, LrW, ScW, AmoswapW, AmoaddW}
use Rattle.cx_decode.specs.declared.op.Op.TheVariants.{AmoxorW, AmoandW, AmoorW, AmominW, AmomaxW, AmominuW, AmomaxuW}
use Rattle.cx_exec.specs.Arithmetic.{wrapped, signed, difference, truth, less_signed, lesser_signed, greater_signed}
use Rattle.cx_exec.specs.Arithmetic.{shifted_left, shifted_right, shifted_right_signed, upper_half, quotient_signed}
use Rattle.cx_exec.specs.Arithmetic.{quotient, remainder_signed, remainder}
use Rattle.cx_exec.specs.Values.{values_of, registers_with}
use Rattle.cx_exec.specs.declared.effect.Done.{Done}
use Rattle.cx_exec.specs.declared.effect.Effect.{Effect}
use Rattle.cx_exec.specs.declared.effect.Misaligned.{Misaligned}
use Rattle.cx_exec.specs.declared.got.Got.{Got}
use Rattle.cx_exec.specs.declared.values.Values.{Values}

-- ---- the kinds of effect

abbrev pub effect : ℕ → ℕ → ℕ → Option ℕ → Result Effect Misaligned
effect rd value pc write = Ok (record { rd = rd; value = value; pc = pc; write = write })

-- pc + 4, where no row says otherwise
abbrev pub following : Values → ℕ
following v = wrapped (v.pc + 4)

-- no result and no store
abbrev pub passes : Values → Result Effect Misaligned
passes v = effect 0 0 (following v) None

-- a value to rd
abbrev pub gives : Values → ℕ → Result Effect Misaligned
gives v value = effect v.rd value (following v) None

-- a value to memory
abbrev pub stores : Values → ℕ → Result Effect Misaligned
stores v value = effect 0 0 (following v) (Some value)

-- the old word to rd, and a new one to memory
abbrev pub swaps : Values → ℕ → Result Effect Misaligned
swaps v value = effect v.rd v.got (following v) (Some value)

-- an SC: b to memory and 0 to rd where it succeeds, else 1 to rd
abbrev pub concludes : Values → Bool → Result Effect Misaligned
concludes v succeeds = if succeeds then effect v.rd 0 (following v) (Some v.b) else effect v.rd 1 (following v) None

-- on to a target that is a multiple of 4, with a value to a register
abbrev pub goes : ℕ → ℕ → ℕ → Result Effect Misaligned
goes rd value target = if target % 4 == 0 then effect rd value target None else Err (record { target = target })

-- a jump leaves the place behind it in rd
abbrev pub jumps : Values → ℕ → Result Effect Misaligned
jumps v target = goes v.rd (following v) target

abbrev pub branches : Values → Bool → Result Effect Misaligned
branches v taken = if taken then goes 0 0 (wrapped (v.pc + v.imm)) else passes v

-- with bit 0 cleared
abbrev pub even : ℕ → ℕ
even n = n / 2 * 2

-- ---- the rows

abbrev pub row_effect : Op → Values → Result Effect Misaligned
-- RV32I: constants (Unprivileged ISA, 2.4)
row_effect Lui v = gives v v.imm
row_effect Auipc v = gives v (wrapped (v.pc + v.imm))
-- RV32I: jumps and branches (2.5)
row_effect Jal v = jumps v (wrapped (v.pc + v.imm))
row_effect Jalr v = jumps v (even (wrapped (v.a + v.imm)))
row_effect Beq v = branches v (v.a == v.b)
row_effect Bne v = branches v (not (v.a == v.b))
row_effect Blt v = branches v (less_signed v.a v.b)
row_effect Bge v = branches v (not (less_signed v.a v.b))
row_effect Bltu v = branches v (nat_lt v.a v.b)
row_effect Bgeu v = branches v (not (nat_lt v.a v.b))
-- RV32I: loads and stores (2.6)
row_effect Lb v = gives v (sign_extended 8 (v.got % 2 ^ 8))
row_effect Lh v = gives v (sign_extended 16 (v.got % 2 ^ 16))
row_effect Lw v = gives v v.got
row_effect Lbu v = gives v (v.got % 2 ^ 8)
row_effect Lhu v = gives v (v.got % 2 ^ 16)
row_effect Sb v = stores v (v.b % 2 ^ 8)
row_effect Sh v = stores v (v.b % 2 ^ 16)
row_effect Sw v = stores v v.b
-- RV32I: computation with an immediate (2.4)
row_effect Addi v = gives v (wrapped (v.a + v.imm))
row_effect Slti v = gives v (truth (less_signed v.a v.imm))
row_effect Sltiu v = gives v (truth (nat_lt v.a v.imm))
row_effect Xori v = gives v (bit_xor v.a v.imm)
row_effect Ori v = gives v (bit_or v.a v.imm)
row_effect Andi v = gives v (bit_and v.a v.imm)
row_effect Slli v = gives v (shifted_left v.a v.imm)
row_effect Srli v = gives v (shifted_right v.a v.imm)
row_effect Srai v = gives v (shifted_right_signed v.a v.imm)
-- RV32I: computation on registers (2.4)
row_effect Add v = gives v (wrapped (v.a + v.b))
row_effect Sub v = gives v (difference v.a v.b)
row_effect Sll v = gives v (shifted_left v.a (v.b % 32))
row_effect Slt v = gives v (truth (less_signed v.a v.b))
row_effect Sltu v = gives v (truth (nat_lt v.a v.b))
row_effect Xor v = gives v (bit_xor v.a v.b)
row_effect Srl v = gives v (shifted_right v.a (v.b % 32))
row_effect Sra v = gives v (shifted_right_signed v.a (v.b % 32))
row_effect Or v = gives v (bit_or v.a v.b)
row_effect And v = gives v (bit_and v.a v.b)
-- M: multiplication and division (7.1, 7.2)
row_effect Mul v = gives v (wrapped (v.a * v.b))
row_effect Mulh v = gives v (upper_half (signed v.a *ℤ signed v.b))
row_effect Mulhsu v = gives v (upper_half (signed v.a *ℤ pos v.b))
row_effect Mulhu v = gives v (upper_half (pos (v.a * v.b)))
row_effect Div v = gives v (quotient_signed v.a v.b)
row_effect Divu v = gives v (quotient v.a v.b)
row_effect Rem v = gives v (remainder_signed v.a v.b)
row_effect Remu v = gives v (remainder v.a v.b)
-- RV32I: the fence of memory (2.7), and Zifencei (3)
row_effect Fence v = passes v
row_effect FenceI v = passes v
-- RV32I: calls of the environment and breakpoints (2.8)
row_effect Ecall v = passes v
row_effect Ebreak v = passes v
-- Privileged instructions (Privileged Architecture, 3.3.2, 3.3.3, 4.2.1)
row_effect Sret v = passes v
row_effect Mret v = passes v
row_effect Wfi v = passes v
row_effect SfenceVma v = passes v
-- Zicsr: control registers (9.1)
row_effect Csrrw v = gives v v.got
row_effect Csrrs v = gives v v.got
row_effect Csrrc v = gives v v.got
row_effect Csrrwi v = gives v v.got
row_effect Csrrsi v = gives v v.got
row_effect Csrrci v = gives v v.got
-- A: load-reserved and store-conditional (8.2)
row_effect LrW v = gives v v.got
row_effect ScW v = concludes v (v.got == 0)
-- A: atomic memory operations (8.4)
row_effect AmoswapW v = swaps v v.b
row_effect AmoaddW v = swaps v (wrapped (v.got + v.b))
row_effect AmoxorW v = swaps v (bit_xor v.got v.b)
row_effect AmoandW v = swaps v (bit_and v.got v.b)
row_effect AmoorW v = swaps v (bit_or v.got v.b)
row_effect AmominW v = swaps v (lesser_signed v.got v.b)
row_effect AmomaxW v = swaps v (greater_signed v.got v.b)
row_effect AmominuW v = swaps v (min v.got v.b)
row_effect AmomaxuW v = swaps v (max v.got v.b)

-- ---- an instruction

abbrev pub effect_of : Ins → ℕ → List ℕ → Got → Result Effect Misaligned
effect_of i pc regs got = row_effect i.op (values_of i pc regs got)

-- The same with all registers once the value has gone to rd.
abbrev pub done_of : List ℕ → Result Effect Misaligned → Result Done Misaligned
done_of regs (Ok e) = Ok (record { regs = registers_with regs e.rd e.value; pc = e.pc; write = e.write })
done_of regs (Err e) = Err e
