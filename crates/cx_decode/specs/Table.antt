-- The instruction table. A word is an instruction of the row whose bits it has under that row's mask.
use Rattle.std.specs.Prelude.{◌≡◌, ℕ, bit_and}
use Rattle.cx_decode.specs.declared.format.Format.{Format}
use Rattle.cx_decode.specs.declared.format.Format.TheVariants.{Register, Immediate, Shift, Store, Branch, Upper, Jump}
use Rattle.cx_decode.specs.declared.format.Format.TheVariants.{Control, ControlImmediate, Plain, Translation, Reserve}
use Rattle.cx_decode.specs.declared.format.Format.TheVariants.{Atomic, Fence as FenceFormat}
use Rattle.cx_decode.specs.declared.op.Op.{Op}
use Rattle.cx_decode.specs.declared.op.Op.TheVariants.{Lui, Auipc, Jal, Jalr, Beq, Bne, Blt, Bge, Bltu, Bgeu, Lb, Lh}
use Rattle.cx_decode.specs.declared.op.Op.TheVariants.{Lw, Lbu, Lhu, Sb, Sh, Sw, Addi, Slti, Sltiu, Xori, Ori, Andi}
use Rattle.cx_decode.specs.declared.op.Op.TheVariants.{Slli, Srli, Srai, Add, Sub, Sll, Slt, Sltu, Xor, Srl, Sra, Or}
use Rattle.cx_decode.specs.declared.op.Op.TheVariants.{And, Mul, Mulh, Mulhsu, Mulhu, Div, Divu, Rem, Remu, Fence}
use Rattle.cx_decode.specs.declared.op.Op.TheVariants.{FenceI, Ecall, Ebreak, Sret, Mret, Wfi, SfenceVma, Csrrw, Csrrs}
use Rattle.cx_decode.specs.declared.op.Op.TheVariants.{Csrrc, Csrrwi, Csrrsi, Csrrci, LrW, ScW, AmoswapW, AmoaddW}
use Rattle.cx_decode.specs.declared.op.Op.TheVariants.{AmoxorW, AmoandW, AmoorW, AmominW, AmomaxW, AmominuW, AmomaxuW}

-- The mask of a row, the bits that a word of it has there, and where its operands lie.
pub record Row : Type 0 where
  pub mask : ℕ
  pub bits : ℕ
  pub format : Format

abbrev pub row : ℕ → ℕ → Format → Row
row mask bits format = record { mask = mask; bits = bits; format = format }

abbrev pub row_of : Op → Row
-- RV32I: constants (Unprivileged ISA, 2.4)
row_of Lui = row 0x0000007f 0x00000037 Upper
row_of Auipc = row 0x0000007f 0x00000017 Upper
-- RV32I: jumps and branches (2.5)
row_of Jal = row 0x0000007f 0x0000006f Jump
row_of Jalr = row 0x0000707f 0x00000067 Immediate
row_of Beq = row 0x0000707f 0x00000063 Branch
row_of Bne = row 0x0000707f 0x00001063 Branch
row_of Blt = row 0x0000707f 0x00004063 Branch
row_of Bge = row 0x0000707f 0x00005063 Branch
row_of Bltu = row 0x0000707f 0x00006063 Branch
row_of Bgeu = row 0x0000707f 0x00007063 Branch
-- RV32I: loads and stores (2.6)
row_of Lb = row 0x0000707f 0x00000003 Immediate
row_of Lh = row 0x0000707f 0x00001003 Immediate
row_of Lw = row 0x0000707f 0x00002003 Immediate
row_of Lbu = row 0x0000707f 0x00004003 Immediate
row_of Lhu = row 0x0000707f 0x00005003 Immediate
row_of Sb = row 0x0000707f 0x00000023 Store
row_of Sh = row 0x0000707f 0x00001023 Store
row_of Sw = row 0x0000707f 0x00002023 Store
-- RV32I: computation with an immediate (2.4)
row_of Addi = row 0x0000707f 0x00000013 Immediate
row_of Slti = row 0x0000707f 0x00002013 Immediate
row_of Sltiu = row 0x0000707f 0x00003013 Immediate
row_of Xori = row 0x0000707f 0x00004013 Immediate
row_of Ori = row 0x0000707f 0x00006013 Immediate
row_of Andi = row 0x0000707f 0x00007013 Immediate
row_of Slli = row 0xfe00707f 0x00001013 Shift
row_of Srli = row 0xfe00707f 0x00005013 Shift
row_of Srai = row 0xfe00707f 0x40005013 Shift
-- RV32I: computation on registers (2.4)
row_of Add = row 0xfe00707f 0x00000033 Register
row_of Sub = row 0xfe00707f 0x40000033 Register
row_of Sll = row 0xfe00707f 0x00001033 Register
row_of Slt = row 0xfe00707f 0x00002033 Register
row_of Sltu = row 0xfe00707f 0x00003033 Register
row_of Xor = row 0xfe00707f 0x00004033 Register
row_of Srl = row 0xfe00707f 0x00005033 Register
row_of Sra = row 0xfe00707f 0x40005033 Register
row_of Or = row 0xfe00707f 0x00006033 Register
row_of And = row 0xfe00707f 0x00007033 Register
-- M: multiplication and division (7.1, 7.2)
row_of Mul = row 0xfe00707f 0x02000033 Register
row_of Mulh = row 0xfe00707f 0x02001033 Register
row_of Mulhsu = row 0xfe00707f 0x02002033 Register
row_of Mulhu = row 0xfe00707f 0x02003033 Register
row_of Div = row 0xfe00707f 0x02004033 Register
row_of Divu = row 0xfe00707f 0x02005033 Register
row_of Rem = row 0xfe00707f 0x02006033 Register
row_of Remu = row 0xfe00707f 0x02007033 Register
-- RV32I: the fence of memory (2.7), and Zifencei (3)
row_of Fence = row 0x0000707f 0x0000000f FenceFormat
row_of FenceI = row 0x0000707f 0x0000100f FenceFormat
-- RV32I: calls of the environment and breakpoints (2.8)
row_of Ecall = row 0xffffffff 0x00000073 Plain
row_of Ebreak = row 0xffffffff 0x00100073 Plain
-- Privileged instructions (Privileged Architecture, 3.3.2, 3.3.3, 4.2.1)
row_of Sret = row 0xffffffff 0x10200073 Plain
row_of Mret = row 0xffffffff 0x30200073 Plain
row_of Wfi = row 0xffffffff 0x10500073 Plain
row_of SfenceVma = row 0xfe007fff 0x12000073 Translation
-- Zicsr: control registers (9.1)
row_of Csrrw = row 0x0000707f 0x00001073 Control
row_of Csrrs = row 0x0000707f 0x00002073 Control
row_of Csrrc = row 0x0000707f 0x00003073 Control
row_of Csrrwi = row 0x0000707f 0x00005073 ControlImmediate
row_of Csrrsi = row 0x0000707f 0x00006073 ControlImmediate
row_of Csrrci = row 0x0000707f 0x00007073 ControlImmediate
-- A: load-reserved and store-conditional (8.2)
row_of LrW = row 0xf9f0707f 0x1000202f Reserve
row_of ScW = row 0xf800707f 0x1800202f Atomic
-- A: atomic memory operations (8.4)
row_of AmoswapW = row 0xf800707f 0x0800202f Atomic
row_of AmoaddW = row 0xf800707f 0x0000202f Atomic
row_of AmoxorW = row 0xf800707f 0x2000202f Atomic
row_of AmoandW = row 0xf800707f 0x6000202f Atomic
row_of AmoorW = row 0xf800707f 0x4000202f Atomic
row_of AmominW = row 0xf800707f 0x8000202f Atomic
row_of AmomaxW = row 0xf800707f 0xa000202f Atomic
row_of AmominuW = row 0xf800707f 0xc000202f Atomic
row_of AmomaxuW = row 0xf800707f 0xe000202f Atomic

-- The word is an instruction of this row.
abbrev pub Matches : ℕ → Op → Type 0
Matches word op = bit_and word (row_of op).mask ≡ (row_of op).bits

-- The word is an instruction of no row, which makes it illegal.
abbrev pub MatchesNone : ℕ → Type 0
MatchesNone word = (op : Op) → ¬ Matches word op

-- The word is an instruction of this row, whose operands lie in this format.
abbrev pub MatchesAs : Format → ℕ → Op → Type 0
MatchesAs format word op = Matches word op × ((row_of op).format ≡ format)
