-- The machine after a step.
use Rattle.std.specs.Prelude.{ℕ, ◌+◌, nat_le, if◌then◌else◌, List, take, Option, None, Some}
use Rattle.cx_csr.specs.declared.state.State.{State}
use Rattle.cx_csr.specs.Access.{written_at}
use Rattle.cx_csr.specs.Table.{register_at}
use Rattle.cx_csr.specs.declared.causes.TheConstants.{INTERRUPT_BIT}
use Rattle.cx_exec.specs.Values.{registers_with}
use Rattle.cx_map.specs.Map.{ram_index}
use Rattle.cx_map.specs.declared.TheConstants.{RAM_START}
use Rattle.cx_ram.specs.LittleEndian.{written}
use Rattle.cx_trap.specs.Enter.{entered}
use Rattle.cx_trap.specs.Return.{after_mret, after_sret}
use Rattle.cx_hart.specs.Counters.{with_cycle, with_retired}
use Rattle.cx_hart.specs.declared.record.Touch.{Touch}
use Rattle.cx_hart.specs.declared.findings.Control.{Control}
use Rattle.cx_hart.specs.declared.findings.Control.TheVariants.{Untouched, Write, Mret, Sret}
use Rattle.cx_hart.specs.declared.findings.Retired.{Retired}

-- the cause of a trap that an interrupt of this number is
abbrev pub interrupt_cause : ℕ → ℕ
interrupt_cause number = number + INTERRUPT_BIT

-- An exception or an interrupt was taken: a step that doesn't retire.
unfoldable pub after_trap : ℕ → ℕ → State → State
after_trap cause tval s = with_cycle Untouched (entered cause tval s)

-- what the instruction does to control registers
abbrev pub after_control : Control → State → State
after_control Untouched s = s
after_control (Write number value) s = written_at (register_at number) value s
after_control Mret s = after_mret s
after_control Sret s = after_sret s

-- its register, pc and the reservation
abbrev pub after_effect : Retired → State → State
after_effect r s = record s {
  pc = r.effect.pc;
  x = registers_with s.x r.effect.rd r.effect.value;
  reservation = r.reservation;
}

unfoldable pub after_retired : Retired → State → State
after_retired r s = with_retired r.control (with_cycle r.control (after_effect r (after_control r.control s)))

-- What is written to RAM stands there. A word of a device is below RAM and isn't memory.
unfoldable pub memory_after_touch : Option Touch → List ℕ → List ℕ
memory_after_touch None memory = memory
memory_after_touch (Some t) memory =
    if nat_le RAM_START t.pa then written memory (ram_index t.pa) (take t.len t.bytes) else memory

abbrev pub memory_after : Retired → List ℕ → List ℕ
memory_after r memory = memory_after_touch r.write_more (memory_after_touch r.write memory)
