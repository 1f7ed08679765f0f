-- Where the operands of an instruction lie in its word (Unprivileged ISA, 2.2 and 2.3; 8.1 for aq and rl; 9.1 for the
-- number of a control register).
use Rattle.std.specs.Prelude.{◌≡◌, ℕ, ◌+◌, ◌-◌, ◌*◌, ◌/◌, ◌%◌, ◌^◌, nat_lt, if◌then◌else◌}
use Rattle.cx_decode.specs.declared.format.Format.{Format}
use Rattle.cx_decode.specs.declared.format.Format.TheVariants.{Register, Immediate, Shift, Store, Branch, Upper, Jump}
use Rattle.cx_decode.specs.declared.format.Format.TheVariants.{Fence, Control, ControlImmediate, Plain, Translation}
use Rattle.cx_decode.specs.declared.format.Format.TheVariants.{Reserve, Atomic}
use Rattle.cx_decode.specs.declared.ins.Ins.{Ins}
use Rattle.cx_decode.specs.declared.op.Op.{Op}
use Rattle.cx_decode.specs.Table.{Matches, row_of}

-- Bits high down to low of a word, as a number.
abbrev pub field : ℕ → ℕ → ℕ → ℕ
field high low word = word / 2 ^ low % 2 ^ (high + 1 - low)

-- A number of so many bits as a 32-bit pattern, with its top bit repeated above it.
abbrev pub sign_extended : ℕ → ℕ → ℕ
sign_extended width n = if nat_lt n (2 ^ (width - 1)) then n else n + (2 ^ 32 - 2 ^ width)

-- ---- registers

abbrev pub rd_of : ℕ → ℕ
rd_of word = field 11 7 word

abbrev pub rs1_of : ℕ → ℕ
rs1_of word = field 19 15 word

abbrev pub rs2_of : ℕ → ℕ
rs2_of word = field 24 20 word

-- ---- immediates

abbrev pub i_immediate : ℕ → ℕ
i_immediate word = sign_extended 12 (field 31 20 word)

abbrev pub s_immediate : ℕ → ℕ
s_immediate word = sign_extended 12 (field 31 25 word * 2 ^ 5 + field 11 7 word)

abbrev pub b_immediate : ℕ → ℕ
b_immediate word =
    sign_extended 13 (field 31 31 word * 2 ^ 12 + field 7 7 word * 2 ^ 11 + field 30 25 word * 2 ^ 5 + field 11 8
    word * 2)

abbrev pub u_immediate : ℕ → ℕ
u_immediate word = field 31 12 word * 2 ^ 12

abbrev pub j_immediate : ℕ → ℕ
j_immediate word =
    sign_extended 21 (field 31 31 word * 2 ^ 20 + field 19 12 word * 2 ^ 12 + field 20 20 word * 2 ^ 11 + field 30 21
    word * 2)

-- ---- the operands of a format

abbrev pub ins : Op → ℕ → ℕ → ℕ → ℕ → Ins
ins op rd rs1 rs2 imm = record { op = op; rd = rd; rs1 = rs1; rs2 = rs2; imm = imm }

abbrev pub operands : Format → Op → ℕ → Ins
operands Register op word = ins op (rd_of word) (rs1_of word) (rs2_of word) 0
operands Immediate op word = ins op (rd_of word) (rs1_of word) 0 (i_immediate word)
operands Shift op word = ins op (rd_of word) (rs1_of word) 0 (field 24 20 word)
operands Store op word = ins op 0 (rs1_of word) (rs2_of word) (s_immediate word)
operands Branch op word = ins op 0 (rs1_of word) (rs2_of word) (b_immediate word)
operands Upper op word = ins op (rd_of word) 0 0 (u_immediate word)
operands Jump op word = ins op (rd_of word) 0 0 (j_immediate word)
operands Fence op word = ins op (rd_of word) (rs1_of word) 0 (field 31 20 word)
operands Control op word = ins op (rd_of word) (rs1_of word) 0 (field 31 20 word)
operands ControlImmediate op word = ins op (rd_of word) (field 19 15 word) 0 (field 31 20 word)
operands Plain op word = ins op 0 0 0 0
operands Translation op word = ins op 0 (rs1_of word) (rs2_of word) 0
operands Reserve op word = ins op (rd_of word) (rs1_of word) 0 (field 26 25 word)
operands Atomic op word = ins op (rd_of word) (rs1_of word) (rs2_of word) (field 26 25 word)

-- The instruction that a word of this row spells.
abbrev pub ins_of : Op → ℕ → Ins
ins_of op word = operands (row_of op).format op word

-- The word is this instruction: its row, and its operands as the row's format has them.
abbrev pub IsWordOf : ℕ → Ins → Type 0
IsWordOf word i = Matches word i.op × (i ≡ ins_of i.op word)
