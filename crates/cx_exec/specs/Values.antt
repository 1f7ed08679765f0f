-- What an instruction works on: values alone, and never a machine.
use Rattle.std.specs.Prelude.{ℕ, List, if◌then◌else◌, ◌==◌, slice_index, slice_set}
use Rattle.cx_decode.specs.declared.ins.Ins.{Ins}
use Rattle.cx_exec.specs.declared.got.Got.{Got}
use Rattle.cx_exec.specs.declared.got.Got.TheVariants.{Nothing, Bytes, Outcome, Old}
use Rattle.cx_exec.specs.declared.values.Values.{Values}

-- Register 0 reads 0.
abbrev pub register : List ℕ → ℕ → ℕ
register regs number = if number == 0 then 0 else slice_index regs number

-- The registers once a value has gone to rd, which drops it where rd is 0.
abbrev pub registers_with : List ℕ → ℕ → ℕ → List ℕ
registers_with regs rd value = if rd == 0 then regs else slice_set regs rd value

-- The number that was got, 0 where nothing was.
abbrev pub got_number : Got → ℕ
got_number Nothing = 0
got_number (Bytes number) = number
got_number (Outcome number) = number
got_number (Old number) = number

abbrev pub values_of : Ins → ℕ → List ℕ → Got → Values
values_of i pc regs got = record {
  rd = i.rd;
  pc = pc;
  a = register regs i.rs1;
  b = register regs i.rs2;
  imm =
      i.imm;
  got = got_number got;
}
