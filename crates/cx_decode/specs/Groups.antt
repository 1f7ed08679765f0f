-- The groups of rows, by what an instruction of them works on beside its operands.
use Rattle.std.specs.Prelude.{Option, None, Some}
use Rattle.cx_decode.specs.declared.group.Group.{Group}
use Rattle.cx_decode.specs.declared.group.Group.TheVariants.{Computes, Loads, Stores, Others}
use Rattle.cx_decode.specs.declared.ins.Ins.{Ins}
use Rattle.cx_decode.specs.declared.kept.Known.{Known}
use Rattle.cx_decode.specs.declared.op.Op.{Op}
use Rattle.cx_decode.specs.declared.op.Op.TheVariants.{Lb, Lh, Lw, Lbu, Lhu, Sb, Sh, Sw, LrW, ScW, AmoswapW, AmoaddW}
use Rattle.cx_decode.specs.declared.op.Op.TheVariants.{AmoxorW, AmoandW, AmoorW, AmominW, AmomaxW, AmominuW, AmomaxuW}
use Rattle.cx_decode.specs.declared.op.Op.TheVariants.{Csrrw, Csrrs, Csrrc, Csrrwi, Csrrsi, Csrrci, Ecall, Ebreak, Sret}
use Rattle.cx_decode.specs.declared.op.Op.TheVariants.{Mret, Wfi, SfenceVma}

abbrev pub group_of : Op → Group
-- RV32I: loads and stores (Unprivileged ISA, 2.6)
group_of Lb = Loads 1
group_of Lbu = Loads 1
group_of Lh = Loads 2
group_of Lhu = Loads 2
group_of Lw = Loads 4
group_of Sb = Stores 1
group_of Sh = Stores 2
group_of Sw = Stores 4
-- A: reservations (8.2), and atomic operations (8.4)
group_of LrW = Others
group_of ScW = Others
group_of AmoswapW = Others
group_of AmoaddW = Others
group_of AmoxorW = Others
group_of AmoandW = Others
group_of AmoorW = Others
group_of AmominW = Others
group_of AmomaxW = Others
group_of AmominuW = Others
group_of AmomaxuW = Others
-- Zicsr: control registers (9.1)
group_of Csrrw = Others
group_of Csrrs = Others
group_of Csrrc = Others
group_of Csrrwi = Others
group_of Csrrsi = Others
group_of Csrrci = Others
-- RV32I: calls of the environment and breakpoints (2.8). Returns from traps, and what a mode may be barred from
-- (Privileged Architecture, 3.3.2, 3.3.3, 4.2.1)
group_of Ecall = Others
group_of Ebreak = Others
group_of Sret = Others
group_of Mret = Others
group_of Wfi = Others
group_of SfenceVma = Others
-- All other rows compute.
group_of op = Computes

-- the instruction that is known, where one is
abbrev pub instruction_of : Option Known → Option Ins
instruction_of None = None
instruction_of (Some k) = Some k.ins
