-- What a control register instruction does with the register (Unprivileged ISA, 9.1). Its rs1 is bits 19:15 of the
-- word: the number of a register, or the operand itself.
use Rattle.std.specs.Prelude.{ℕ, Bool, true, false, not, ◌==◌, bit_and, bit_or, List}
use Rattle.std.specs.Int.{w32, bit_not}
use Rattle.cx_decode.specs.declared.ins.Ins.{Ins}
use Rattle.cx_decode.specs.declared.op.Op.{Op}
use Rattle.cx_decode.specs.declared.op.Op.TheVariants.{Csrrw, Csrrs, Csrrc, Csrrwi, Csrrsi, Csrrci}
use Rattle.cx_exec.specs.Values.{register}

-- Each reads, but a plain write whose old value goes nowhere.
abbrev pub row_reads_control : Op → ℕ → Bool
row_reads_control Csrrw rd = not (rd == 0)
row_reads_control Csrrs rd = true
row_reads_control Csrrc rd = true
row_reads_control Csrrwi rd = not (rd == 0)
row_reads_control Csrrsi rd = true
row_reads_control Csrrci rd = true
row_reads_control op rd = false

abbrev pub reads_control : Ins → Bool
reads_control i = row_reads_control i.op i.rd

-- Each writes, but one that sets or clears and has 0 in bits 19:15.
abbrev pub row_writes_control : Op → ℕ → Bool
row_writes_control Csrrw rs1 = true
row_writes_control Csrrs rs1 = not (rs1 == 0)
row_writes_control Csrrc rs1 = not (rs1 == 0)
row_writes_control Csrrwi rs1 = true
row_writes_control Csrrsi rs1 = not (rs1 == 0)
row_writes_control Csrrci rs1 = not (rs1 == 0)
row_writes_control op rs1 = false

abbrev pub writes_control : Ins → Bool
writes_control i = row_writes_control i.op i.rs1

-- A register's value, or the five bits as they stand; 0 for all other rows.
abbrev pub row_control_operand : Op → ℕ → List ℕ → ℕ
row_control_operand Csrrw rs1 regs = register regs rs1
row_control_operand Csrrs rs1 regs = register regs rs1
row_control_operand Csrrc rs1 regs = register regs rs1
row_control_operand Csrrwi rs1 regs = rs1
row_control_operand Csrrsi rs1 regs = rs1
row_control_operand Csrrci rs1 regs = rs1
row_control_operand op rs1 regs = 0

abbrev pub control_operand_of : Ins → List ℕ → ℕ
control_operand_of i regs = row_control_operand i.op i.rs1 regs

-- The value that is written, from the old one and the operand; all other rows leave the old one.
abbrev pub control_value_of : Op → ℕ → ℕ → ℕ
control_value_of Csrrw old operand = operand
control_value_of Csrrs old operand = bit_or old operand
control_value_of Csrrc old operand = bit_and old (bit_not w32 operand)
control_value_of Csrrwi old operand = operand
control_value_of Csrrsi old operand = bit_or old operand
control_value_of Csrrci old operand = bit_and old (bit_not w32 operand)
control_value_of op old operand = old
