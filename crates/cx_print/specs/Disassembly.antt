-- An instruction as text.
use Rattle.std.specs.Prelude.{ℕ, ◌==◌, List, [], ◌++◌, codes, if◌then◌else◌}
use Rattle.cx_decode.specs.declared.format.Format.{Format}
use Rattle.cx_decode.specs.declared.format.Format.TheVariants.{Reserve, Atomic}
use Rattle.cx_decode.specs.declared.ins.Ins.{Ins}
use Rattle.cx_decode.specs.Table.{row_of}
use Rattle.cx_print.specs.Names.{name_of}
use Rattle.cx_print.specs.Operands.{operand_text, operands_of}
use Rattle.cx_print.specs.declared.operands.Operands.{Operands}
use Rattle.cx_print.specs.declared.operands.Operands.TheVariants.{Nothing, Two, Three}

-- the ordering bits of an atomic: aq is worth 2, and rl 1 (Unprivileged ISA, 8.1)
abbrev pub bits_text : ℕ → List ℕ
bits_text bits =
    if bits == 0 then [] else (if bits == 1 then codes ".rl" else (if bits == 2 then codes ".aq" else codes ".aqrl"))

abbrev pub ordering_text : Format → ℕ → List ℕ
ordering_text Reserve imm = bits_text imm
ordering_text Atomic imm = bits_text imm
ordering_text _ imm = []

-- the operands behind a space, with a comma and a space between two
abbrev pub operands_text : Operands → List ℕ
operands_text Nothing = []
operands_text (Two a b) = codes " " ++ operand_text a ++ codes ", " ++ operand_text b
operands_text (Three a b c) =
    codes " " ++ operand_text a ++ codes ", " ++ operand_text b ++ codes ", " ++ operand_text c

unfoldable pub ins_text : Ins → List ℕ
ins_text i = name_of i.op ++ ordering_text (row_of i.op).format i.imm ++ operands_text (operands_of i)
