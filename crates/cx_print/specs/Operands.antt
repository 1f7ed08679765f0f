-- Which operands an instruction is shown with, and how each is spelled.
use Rattle.std.specs.Prelude.{ℕ, ◌-◌, ◌/◌, ◌^◌, nat_lt, Bool, true, false, List, [], ◌++◌, codes, if◌then◌else◌}
use Rattle.std.specs.Fmt.{decimal, digits}
use Rattle.cx_decode.specs.declared.format.Format.{Format}
use Rattle.cx_decode.specs.declared.format.Format.TheVariants.{Register, Immediate, Shift, Store, Branch, Upper, Jump}
use Rattle.cx_decode.specs.declared.format.Format.TheVariants.{Fence, Control, ControlImmediate, Plain, Translation}
use Rattle.cx_decode.specs.declared.format.Format.TheVariants.{Reserve, Atomic}
use Rattle.cx_decode.specs.declared.ins.Ins.{Ins}
use Rattle.cx_decode.specs.declared.op.Op.{Op}
use Rattle.cx_decode.specs.declared.op.Op.TheVariants.{Jalr, Lb, Lh, Lw, Lbu, Lhu}
use Rattle.cx_decode.specs.Table.{row_of}
use Rattle.cx_print.specs.Hex.{hex}
use Rattle.cx_print.specs.declared.operands.Operand.{Operand}
use Rattle.cx_print.specs.declared.operands.Operand.TheVariants.{Offset, Place, Signed, Small, Target, ControlRegister}
use Rattle.cx_print.specs.declared.operands.Operand.TheVariants.{UpperBits, X}
use Rattle.cx_print.specs.declared.operands.Operands.{Operands}
use Rattle.cx_print.specs.declared.operands.Operands.TheVariants.{Nothing, Two, Three}

-- ---- an operand

-- a register
abbrev pub register_text : ℕ → List ℕ
register_text number = codes "x" ++ decimal number

-- a pattern of 32 bits as a signed number, with this text in front of one that isn't negative
abbrev pub signed_text : List ℕ → ℕ → List ℕ
signed_text plus bits =
    if nat_lt bits (2 ^ 31) then plus ++ decimal bits else codes "-" ++ decimal (2 ^ 32 - bits)

-- the memory that a register points to
abbrev pub place_text : ℕ → List ℕ
place_text base = codes "(" ++ register_text base ++ codes ")"

abbrev pub operand_text : Operand → List ℕ
operand_text (X number) = register_text number
operand_text (Small number) = decimal number
operand_text (Signed bits) = signed_text [] bits
operand_text (Target bits) = codes "pc" ++ signed_text (codes "+") bits
operand_text (UpperBits bits) = codes "0x" ++ digits 16 false (bits / 2 ^ 12)
operand_text (ControlRegister number) = hex 3 number
operand_text (Place base) = place_text base
operand_text (Offset bits base) = signed_text [] bits ++ place_text base

-- ---- the operands of a row

-- its address is a register plus the immediate, among the rows of the format I
abbrev pub is_addressed : Op → Bool
is_addressed Jalr = true
is_addressed Lb = true
is_addressed Lh = true
is_addressed Lw = true
is_addressed Lbu = true
is_addressed Lhu = true
is_addressed _ = false

abbrev pub immediate_operands : Bool → Ins → Operands
immediate_operands true i = Two (X i.rd) (Offset i.imm i.rs1)
immediate_operands false i = Three (X i.rd) (X i.rs1) (Signed i.imm)

abbrev pub operands_in : Format → Ins → Operands
operands_in Register i = Three (X i.rd) (X i.rs1) (X i.rs2)
operands_in Immediate i = immediate_operands (is_addressed i.op) i
operands_in Shift i = Three (X i.rd) (X i.rs1) (Signed i.imm)
operands_in Store i = Two (X i.rs2) (Offset i.imm i.rs1)
operands_in Branch i = Three (X i.rs1) (X i.rs2) (Target i.imm)
operands_in Upper i = Two (X i.rd) (UpperBits i.imm)
operands_in Jump i = Two (X i.rd) (Target i.imm)
operands_in Fence i = Nothing
operands_in Control i = Three (X i.rd) (ControlRegister i.imm) (X i.rs1)
operands_in ControlImmediate i = Three (X i.rd) (ControlRegister i.imm) (Small i.rs1)
operands_in Plain i = Nothing
operands_in Translation i = Two (X i.rs1) (X i.rs2)
operands_in Reserve i = Two (X i.rd) (Place i.rs1)
operands_in Atomic i = Three (X i.rd) (X i.rs2) (Place i.rs1)

abbrev pub operands_of : Ins → Operands
operands_of i = operands_in (row_of i.op).format i
