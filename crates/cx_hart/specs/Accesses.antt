-- Instructions that access memory: loads and stores (Unprivileged ISA, 2.6), load-reserved and store-conditional (8.2)
-- and atomic memory operations (8.4).
use Rattle.std.specs.Prelude.{ℕ, ◌+◌, ◌*◌, ◌/◌, ◌^◌, Bool, false, ◌==◌, if◌then◌else◌, Option, None, Some}
use Rattle.std.specs.Option.{option_map}
use Rattle.cx_csr.specs.declared.state.State.{State}
use Rattle.cx_decode.specs.declared.ins.Ins.{Ins}
use Rattle.cx_exec.specs.declared.asks.Access.{Access}
use Rattle.cx_exec.specs.declared.asks.Access.TheVariants.{Load, Store, Reserve, Conditional, Amo}
use Rattle.cx_exec.specs.declared.asks.Need.{Need}
use Rattle.cx_exec.specs.declared.effect.Effect.{Effect}
use Rattle.cx_exec.specs.declared.got.Got.{Got}
use Rattle.cx_exec.specs.declared.got.Got.TheVariants.{Nothing, Bytes, Outcome}
use Rattle.cx_hart.specs.Effects.{instruction_effect, retired_with}
use Rattle.cx_hart.specs.Ends.{answered}
use Rattle.cx_hart.specs.Fetch.{read_at}
use Rattle.cx_hart.specs.Looks.{First, Rest}
use Rattle.cx_hart.specs.Phases.{Phase, found, sees, unseen, ◌>>=◌}
use Rattle.cx_hart.specs.Reaching.{reached}
use Rattle.cx_hart.specs.Surroundings.{Surroundings}
use Rattle.cx_hart.specs.Touches.{touch}
use Rattle.cx_hart.specs.declared.answer.Asked.TheVariants as asked
use Rattle.cx_hart.specs.declared.findings.Part.{Part}
use Rattle.cx_hart.specs.declared.findings.Reading.{Reading}
use Rattle.cx_hart.specs.declared.findings.Retired.{Retired}
use Rattle.cx_hart.specs.declared.findings.Target.{Target}
use Rattle.cx_hart.specs.declared.findings.Target.TheVariants.{Memory, Device}
use Rattle.cx_hart.specs.declared.record.Touch.{Touch}

-- ---- what is read

-- the answer to an instruction, with no value of the outside in it
abbrev pub inner_reading : Got → Reading
inner_reading got = record { got = got; value = None }

-- an answer that is a value of the outside
abbrev pub outer_reading : Got → ℕ → Reading
outer_reading got value = record { got = got; value = Some value }

-- the bytes of the second part above those of the first
abbrev pub joined : Part → ℕ → ℕ → ℕ
joined first low high = low + 2 ^ (8 * first.len) * high

-- The word of a device is a value of the outside.
unfoldable pub bytes_of : Surroundings → Target → Phase Reading
bytes_of here (Memory first None) = do
  low ← read_at here.memory First first
  found (inner_reading (Bytes low))
bytes_of here (Memory first (Some more)) = do
  low ← read_at here.memory First first
  high ← read_at here.memory Rest more
  found (inner_reading (Bytes (joined first low high)))
bytes_of here (Device part) = do
  value ← unseen (answered here.given (asked.Device part.pa))
  sees (First (touch part value)) (outer_reading (Bytes value) value)

-- ---- the reservation

abbrev pub first_place : Target → ℕ
first_place (Memory first more) = first.pa
first_place (Device part) = part.pa

abbrev pub is_reserved : Option ℕ → ℕ → Bool
is_reserved None place = false
is_reserved (Some word) place = word == place

-- An SC succeeds where the reservation is that of its word: 0, else 1.
abbrev pub outcome_at : Option ℕ → ℕ → ℕ
outcome_at reservation place = if is_reserved reservation place then 0 else 1

-- what the access gives to its instruction
unfoldable pub reading_of : Surroundings → Access → Target → Phase Reading
reading_of here Load target = bytes_of here target
reading_of here Reserve target = bytes_of here target
reading_of here Amo target = bytes_of here target
reading_of here Store target = found (inner_reading Nothing)
reading_of here Conditional target =
    found (inner_reading (Outcome (outcome_at here.state.reservation (first_place target))))

-- An LR reserves its word, and an SC drops what was reserved.
abbrev pub reservation_after : Access → Target → Option ℕ → Option ℕ
reservation_after Reserve target old = Some (first_place target)
reservation_after Conditional target old = None
reservation_after access target old = old

abbrev pub result_of : Got → Option ℕ
result_of (Outcome outcome) = Some outcome
result_of got = None

-- ---- what is written: the low bytes of the value to the first part, those above to the second

abbrev pub first_write : Target → ℕ → Touch
first_write (Memory first more) value = touch first value
first_write (Device part) value = touch part value

abbrev pub second_write : Target → ℕ → Option Touch
second_write (Memory first more) value = option_map (λ part. touch part (value / 2 ^ (8 * first.len))) more
second_write (Device part) value = None

abbrev pub second_write_of : Target → Option ℕ → Option Touch
second_write_of target None = None
second_write_of target (Some value) = second_write target value

-- ---- the instruction

abbrev pub access_done : State → Access → Target → Reading → Effect → Retired
access_done s access target reading effect = record (retired_with s effect) {
  reservation = reservation_after access target s.reservation;
  write = option_map (first_write target) effect.write;
  write_more = second_write_of target effect.write;
  value = reading.value;
  result = result_of reading.got;
}

unfoldable pub accessed : Surroundings → Ins → Need → Phase Retired
accessed here i n = do
  target ← reached here n
  reading ← reading_of here n.access target
  effect ← unseen (instruction_effect here.state i reading.got)
  found (access_done here.state n.access target reading effect)
