-- Where a word has the bits of its operands: each operand cut into the fields of its format.
use Rattle.std.specs.Prelude.{ℕ, ◌+◌, ◌*◌, ◌/◌, ◌%◌, ◌^◌}
use Rattle.cx_decode.specs.declared.format.Format.{Format}
use Rattle.cx_decode.specs.declared.format.Format.TheVariants.{Register, Immediate, Shift, Store, Branch, Upper, Jump}
use Rattle.cx_decode.specs.declared.format.Format.TheVariants.{Fence, Control, ControlImmediate, Plain, Translation}
use Rattle.cx_decode.specs.declared.format.Format.TheVariants.{Reserve, Atomic}
use Rattle.cx_decode.specs.declared.ins.Ins.{Ins}

abbrev pub placed_registers : Ins → ℕ
placed_registers i = i.rd * 2 ^ 7 + i.rs1 * 2 ^ 15 + i.rs2 * 2 ^ 20

abbrev pub placed_immediate : Format → ℕ → ℕ
placed_immediate Register imm = 0
placed_immediate Immediate imm = imm % 2 ^ 12 * 2 ^ 20
placed_immediate Shift imm = imm % 2 ^ 5 * 2 ^ 20
placed_immediate Store imm = imm / 2 ^ 5 % 2 ^ 7 * 2 ^ 25 + imm % 2 ^ 5 * 2 ^ 7
placed_immediate Branch imm = imm / 2 ^ 31 * 2 ^ 31 + imm / 2 ^ 5 % 2 ^ 6 * 2 ^ 25 + imm / 2 % 2 ^ 4 * 2 ^ 8 + imm / 2 ^
    11 % 2 * 2 ^ 7
placed_immediate Upper imm = imm / 2 ^ 12 * 2 ^ 12
placed_immediate Jump imm = imm / 2 ^ 31 * 2 ^ 31 + imm / 2 % 2 ^ 10 * 2 ^ 21 + imm / 2 ^ 11 % 2 * 2 ^ 20 + imm / 2 ^ 12
    % 2 ^ 8 * 2 ^ 12
placed_immediate Fence imm = imm % 2 ^ 12 * 2 ^ 20
placed_immediate Control imm = imm % 2 ^ 12 * 2 ^ 20
placed_immediate ControlImmediate imm = imm % 2 ^ 12 * 2 ^ 20
placed_immediate Plain imm = 0
placed_immediate Translation imm = 0
placed_immediate Reserve imm = imm % 2 ^ 2 * 2 ^ 25
placed_immediate Atomic imm = imm % 2 ^ 2 * 2 ^ 25
