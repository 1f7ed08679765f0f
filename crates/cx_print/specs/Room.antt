-- The most bytes that an operand and the operands of an instruction take.
use Rattle.std.specs.Prelude.{ℕ, ◌+◌}
use Rattle.cx_print.specs.declared.operands.Operand.{Operand}
use Rattle.cx_print.specs.declared.operands.Operand.TheVariants.{Offset, Place, Signed, Small, Target, ControlRegister}
use Rattle.cx_print.specs.declared.operands.Operand.TheVariants.{UpperBits, X}
use Rattle.cx_print.specs.declared.operands.Operands.{Operands}
use Rattle.cx_print.specs.declared.operands.Operands.TheVariants.{Nothing, Two, Three}

abbrev pub operand_room : Operand → ℕ
operand_room (X number) = 4
operand_room (Small number) = 3
operand_room (Signed bits) = 11
operand_room (Target bits) = 13
operand_room (UpperBits bits) = 7
operand_room (ControlRegister number) = 3
operand_room (Place base) = 6
operand_room (Offset bits base) = 17

abbrev pub operands_room : Operands → ℕ
operands_room Nothing = 0
operands_room (Two a b) = 3 + operand_room a + operand_room b
operands_room (Three a b c) = 5 + operand_room a + operand_room b + operand_room c
