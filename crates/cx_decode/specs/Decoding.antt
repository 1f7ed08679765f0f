-- The instruction that a word spells, found in the table as a whole.
use Rattle.std.specs.Prelude.{ℕ, Bool, ◌==◌, bit_and, List, [], ◌∷◌, Option}
use Rattle.std.specs.List.{find}
use Rattle.std.specs.Option.{option_map}
use Rattle.cx_decode.specs.Operands.{ins_of}
use Rattle.cx_decode.specs.Table.{row_of}
use Rattle.cx_decode.specs.declared.ins.Ins.{Ins}
use Rattle.cx_decode.specs.declared.op.Op.{Op}
use Rattle.cx_decode.specs.declared.op.Op.TheVariants.{Lui, Auipc, Jal, Jalr, Beq, Bne, Blt, Bge, Bltu, Bgeu, Lb, Lh}
use Rattle.cx_decode.specs.declared.op.Op.TheVariants.{Lw, Lbu, Lhu, Sb, Sh, Sw, Addi, Slti, Sltiu, Xori, Ori, Andi}
use Rattle.cx_decode.specs.declared.op.Op.TheVariants.{Slli, Srli, Srai, Add, Sub, Sll, Slt, Sltu, Xor, Srl, Sra, Or}
use Rattle.cx_decode.specs.declared.op.Op.TheVariants.{And, Mul, Mulh, Mulhsu, Mulhu, Div, Divu, Rem, Remu, Fence}
use Rattle.cx_decode.specs.declared.op.Op.TheVariants.{FenceI, Ecall, Ebreak, Sret, Mret, Wfi, SfenceVma, Csrrw, Csrrs}
use Rattle.cx_decode.specs.declared.op.Op.TheVariants.{Csrrc, Csrrwi, Csrrsi, Csrrci, LrW, ScW, AmoswapW, AmoaddW}
use Rattle.cx_decode.specs.declared.op.Op.TheVariants.{AmoxorW, AmoandW, AmoorW, AmominW, AmomaxW, AmominuW, AmomaxuW}

-- every row
abbrev pub all_ops : List Op
all_ops = Lui ∷ Auipc ∷ Jal ∷ Jalr ∷ Beq ∷ Bne ∷ Blt ∷ Bge ∷ Bltu ∷ Bgeu ∷ Lb ∷ Lh ∷ Lw ∷ Lbu ∷ Lhu ∷ Sb ∷ Sh ∷ Sw
    ∷ Addi ∷ Slti ∷ Sltiu ∷ Xori ∷ Ori ∷ Andi ∷ Slli ∷ Srli ∷ Srai ∷ Add ∷ Sub ∷ Sll ∷ Slt ∷ Sltu ∷ Xor ∷ Srl ∷ Sra ∷ Or
    ∷ And ∷ Mul ∷ Mulh ∷ Mulhsu ∷ Mulhu ∷ Div ∷ Divu ∷ Rem ∷ Remu ∷ Fence ∷ FenceI ∷ Ecall ∷ Ebreak ∷ Sret ∷ Mret ∷ Wfi
    ∷ SfenceVma ∷ Csrrw ∷ Csrrs ∷ Csrrc ∷ Csrrwi ∷ Csrrsi ∷ Csrrci ∷ LrW ∷ ScW ∷ AmoswapW ∷ AmoaddW ∷ AmoxorW ∷ AmoandW
    ∷ AmoorW ∷ AmominW ∷ AmomaxW ∷ AmominuW ∷ AmomaxuW ∷ []

-- The word is an instruction of this row, as a test.
abbrev pub is_word_of_row : ℕ → Op → Bool
is_word_of_row word op = bit_and word (row_of op).mask == (row_of op).bits

-- The instruction of the row that matches, of which there is at most one; none where the word is illegal.
unfoldable pub decoded : ℕ → Option Ins
decoded word = option_map (λ op. ins_of op word) (find (is_word_of_row word) all_ops)
