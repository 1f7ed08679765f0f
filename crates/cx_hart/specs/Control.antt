-- Control register instructions (Unprivileged ISA, 9.1; Privileged 1.12, 2.1 for which accesses are illegal).
use Rattle.std.specs.Prelude.{ℕ, Bool, true, false, if◌then◌else◌, Option, None, Some}
use Rattle.cx_csr.specs.declared.access.Csr.{Csr}
use Rattle.cx_csr.specs.declared.access.Csr.TheVariants as csr
use Rattle.cx_csr.specs.declared.state.State.{State}
use Rattle.cx_csr.specs.Access.{csr_read, is_illegal, modify_base}
use Rattle.cx_decode.specs.declared.ins.Ins.{Ins}
use Rattle.cx_exec.specs.Control.{control_operand_of, control_value_of, reads_control, writes_control}
use Rattle.cx_exec.specs.User.{is_base_counter}
use Rattle.cx_exec.specs.Values.{got_number}
use Rattle.cx_exec.specs.declared.effect.Effect.{Effect}
use Rattle.cx_exec.specs.declared.got.Got.TheVariants.{Old}
use Rattle.cx_hart.specs.Accesses.{inner_reading, outer_reading}
use Rattle.cx_hart.specs.Effects.{instruction_effect, retired_with}
use Rattle.cx_hart.specs.Ends.{End, found, answered, ◌>>=◌}
use Rattle.cx_hart.specs.Legal.{illegal}
use Rattle.cx_hart.specs.Surroundings.{Surroundings}
use Rattle.cx_hart.specs.declared.answer.Asked.{Asked}
use Rattle.cx_hart.specs.declared.answer.Asked.TheVariants.{TimeLow, TimeHigh}
use Rattle.cx_hart.specs.declared.findings.Control.{Control}
use Rattle.cx_hart.specs.declared.findings.Control.TheVariants.{Untouched, Write}
use Rattle.cx_hart.specs.declared.findings.Reading.{Reading}
use Rattle.cx_hart.specs.declared.findings.Retired.{Retired}

abbrev pub half_of_time : Bool → Asked
half_of_time false = TimeLow
half_of_time true = TimeHigh

-- The halves of the time are values of the outside (Unprivileged ISA, 10.1).
abbrev pub old_of : Option ℕ → ℕ → Csr → End Reading
old_of given word (csr.Value value) = found (inner_reading (Old value))
old_of given word (csr.Time high) = do
  value ← answered given (half_of_time high)
  found (outer_reading (Old value) value)
old_of given word csr.Illegal = illegal word

-- the old value, 0 where it isn't read
unfoldable pub old_value : Surroundings → ℕ → Ins → End Reading
old_value here word i =
    if reads_control i then old_of here.given word (csr_read here.state i.imm) else found (inner_reading (Old 0))

-- what is written, from the old value
abbrev pub new_value : State → Ins → ℕ → ℕ
new_value s i old = control_value_of i.op (modify_base s i.imm old) (control_operand_of i s.x)

abbrev pub control_of : State → Ins → ℕ → Control
control_of s i old = if writes_control i then Write i.imm (new_value s i old) else Untouched

-- what a counter gave
abbrev pub counter_result : Ins → ℕ → Option ℕ
counter_result i old = if is_base_counter i.imm then Some old else None

abbrev pub control_done : State → Ins → ℕ → Option ℕ → Effect → Retired
control_done s i old value effect = record (retired_with s effect) {
  control = control_of s i old;
  value = value;
  result = counter_result i old;
}

abbrev pub control_carried_out : State → Ins → Reading → End Retired
control_carried_out s i reading = do
  effect ← instruction_effect s i reading.got
  found (control_done s i (got_number reading.got) reading.value effect)

unfoldable pub controlled : Surroundings → ℕ → Ins → End Retired
controlled here word i =
    if is_illegal (writes_control i) here.state i.imm then illegal word
    else old_value here word i >>= control_carried_out here.state i
