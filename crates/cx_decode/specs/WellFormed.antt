-- Which operands the format of a row can spell.
use Rattle.std.specs.Prelude.{◌≡◌, ℕ, ◌%◌, ◌^◌, ◌<◌}
use Rattle.cx_decode.specs.declared.format.Format.{Format}
use Rattle.cx_decode.specs.declared.format.Format.TheVariants.{Register, Immediate, Shift, Store, Branch, Upper, Jump}
use Rattle.cx_decode.specs.declared.format.Format.TheVariants.{Fence, Control, ControlImmediate, Plain, Translation}
use Rattle.cx_decode.specs.declared.format.Format.TheVariants.{Reserve, Atomic}
use Rattle.cx_decode.specs.declared.ins.Ins.{Ins}
use Rattle.cx_decode.specs.Operands.{sign_extended}
use Rattle.cx_decode.specs.Table.{row_of}

-- The number of a register, or another number of five bits.
abbrev pub IsFiveBits : ℕ → Type 0
IsFiveBits n = n < 2 ^ 5

-- The value of a field that a format lacks.
abbrev pub IsAbsent : ℕ → Type 0
IsAbsent n = n ≡ 0

-- A 32-bit pattern that is the sign extension of so many of its low bits.
abbrev pub IsSigned : ℕ → ℕ → Type 0
IsSigned width imm = sign_extended width (imm % 2 ^ width) ≡ imm

-- The same with bit 0 zero, as an offset in units of two bytes.
abbrev pub IsEvenSigned : ℕ → ℕ → Type 0
IsEvenSigned width imm = IsSigned width imm × (imm % 2 ≡ 0)

-- A 32-bit pattern with twelve low zeros.
abbrev pub IsUpper : ℕ → Type 0
IsUpper imm = (imm < 2 ^ 32) × (imm % 2 ^ 12 ≡ 0)

-- The format has these operands: rd, rs1, rs2 and the immediate.
abbrev pub Spells : Format → ℕ → ℕ → ℕ → ℕ → Type 0
Spells Register rd rs1 rs2 imm = IsFiveBits rd × IsFiveBits rs1 × IsFiveBits rs2 × IsAbsent imm
Spells Immediate rd rs1 rs2 imm = IsFiveBits rd × IsFiveBits rs1 × IsAbsent rs2 × IsSigned 12 imm
Spells Shift rd rs1 rs2 imm = IsFiveBits rd × IsFiveBits rs1 × IsAbsent rs2 × IsFiveBits imm
Spells Store rd rs1 rs2 imm = IsAbsent rd × IsFiveBits rs1 × IsFiveBits rs2 × IsSigned 12 imm
Spells Branch rd rs1 rs2 imm = IsAbsent rd × IsFiveBits rs1 × IsFiveBits rs2 × IsEvenSigned 13 imm
Spells Upper rd rs1 rs2 imm = IsFiveBits rd × IsAbsent rs1 × IsAbsent rs2 × IsUpper imm
Spells Jump rd rs1 rs2 imm = IsFiveBits rd × IsAbsent rs1 × IsAbsent rs2 × IsEvenSigned 21 imm
Spells Fence rd rs1 rs2 imm = IsFiveBits rd × IsFiveBits rs1 × IsAbsent rs2 × (imm < 2 ^ 12)
Spells Control rd rs1 rs2 imm = IsFiveBits rd × IsFiveBits rs1 × IsAbsent rs2 × (imm < 2 ^ 12)
Spells ControlImmediate rd rs1 rs2 imm = IsFiveBits rd × IsFiveBits rs1 × IsAbsent rs2 × (imm < 2 ^ 12)
Spells Plain rd rs1 rs2 imm = IsAbsent rd × IsAbsent rs1 × IsAbsent rs2 × IsAbsent imm
Spells Translation rd rs1 rs2 imm = IsAbsent rd × IsFiveBits rs1 × IsFiveBits rs2 × IsAbsent imm
Spells Reserve rd rs1 rs2 imm = IsFiveBits rd × IsFiveBits rs1 × IsAbsent rs2 × (imm < 2 ^ 2)
Spells Atomic rd rs1 rs2 imm = IsFiveBits rd × IsFiveBits rs1 × IsFiveBits rs2 × (imm < 2 ^ 2)

-- The registers are below 32, the fields that its format lacks are 0, and the immediate is one that its format spells.
abbrev pub WellFormed : Ins → Type 0
WellFormed i = Spells (row_of i.op).format i.rd i.rs1 i.rs2 i.imm
