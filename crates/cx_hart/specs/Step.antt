-- One step of the machine: devices write to RAM, the lines change, and the hart takes its turn.
use Rattle.std.specs.Prelude.{ℕ, Bool, [], Option, None, Some, Ok, Err, replicate}
use Rattle.cx_csr.specs.declared.state.State.{State}
use Rattle.cx_machine.specs.Due.{Due, with_lines}
use Rattle.cx_machine.specs.Machine.{MachineState}
use Rattle.cx_machine.specs.Transfers.{after_transfers}
use Rattle.cx_hart.specs.After.{after_retired, after_trap, interrupt_cause, memory_after}
use Rattle.cx_hart.specs.Ends.{End}
use Rattle.cx_hart.specs.Looks.{told}
use Rattle.cx_hart.specs.Phases.{Phase}
use Rattle.cx_hart.specs.Surroundings.{Surroundings}
use Rattle.cx_hart.specs.Turn.{turn}
use Rattle.cx_hart.specs.declared.answer.Asked.{Asked}
use Rattle.cx_hart.specs.declared.answer.Due.{Due as DueToHart}
use Rattle.cx_hart.specs.declared.answer.StepAnswer.{StepAnswer}
use Rattle.cx_hart.specs.declared.answer.StepAnswer.TheVariants as answer
use Rattle.cx_hart.specs.declared.answer.Went.{Went}
use Rattle.cx_hart.specs.declared.answer.Went.TheVariants as went
use Rattle.cx_hart.specs.declared.findings.Retired.{Retired}
use Rattle.cx_hart.specs.declared.findings.Stop.TheVariants.{Asks, Interrupt, Trap}
use Rattle.cx_hart.specs.declared.record.Ended.TheVariants as ended
use Rattle.cx_hart.specs.declared.record.StepRec.{StepRec}

-- What a step comes to: it asks for a value that isn't due, it leaves a value that is due, or it is carried out, with
-- the machine behind it and its record.
pub data Outcome : Type 0 where
  NeedsValue : Asked → Outcome
  ValueLeft : Outcome
  Stepped : MachineState → StepRec → Outcome

-- ---- the record

-- the record of a step that has begun in this state and seen nothing yet
abbrev pub blank : State → StepRec
blank s = record {
  before = s;
  ended = ended.Retired;
  fetch = None;
  read = None;
  read_more = None;
  write = None;
  write_more = None;
  value = None;
  result = None;
  walked = 0;
  places = replicate 6 0;
  entries = replicate 6 0;
}

-- with what an instruction wrote, took and gave
abbrev pub with_done : Retired → StepRec → StepRec
with_done r rec = record rec { write = r.write; write_more = r.write_more; value = r.value; result = r.result }

-- ---- how a turn ends

-- the outcome of a turn of this machine that ended so, by the record of what it saw
abbrev pub ended_in : MachineState → StepRec → End Retired → Outcome
ended_in m rec (Ok r) =
    Stepped (record { state = after_retired r m.state; memory = memory_after r m.memory }) (with_done r rec)
ended_in m rec (Err (Asks what)) = NeedsValue what
ended_in m rec (Err (Interrupt number)) =
    Stepped
    (record { state = after_trap (interrupt_cause number) 0 m.state; memory = m.memory })
    (record rec { ended = ended.Interrupt number })
ended_in m rec (Err (Trap cause tval)) =
    Stepped
    (record { state = after_trap cause tval m.state; memory = m.memory })
    (record rec { ended = ended.Trap cause })

abbrev pub outcome_of : MachineState → Phase Retired → Outcome
outcome_of m p = ended_in m (told p.looks (blank m.state)) p.end

-- ---- a value that is due has to be taken

abbrev pub taken_or_left : Option ℕ → Option ℕ → Outcome → Outcome
taken_or_left None taken outcome = outcome
taken_or_left (Some given) None outcome = ValueLeft
taken_or_left (Some given) (Some taken) outcome = outcome

abbrev pub unless_left : Option ℕ → Outcome → Outcome
unless_left given (NeedsValue what) = NeedsValue what
unless_left given ValueLeft = ValueLeft
unless_left given (Stepped after rec) = taken_or_left given rec.value (Stepped after rec)

-- ---- the step

abbrev pub machine_in : Surroundings → MachineState
machine_in here = record { state = here.state; memory = here.memory }

-- what the turn of a hart comes to
unfoldable pub turn_outcome : Surroundings → Outcome
turn_outcome here = unless_left here.given (outcome_of (machine_in here) (turn here))

-- the turn of a machine, once the transfers have come
abbrev pub surroundings : Bool → Due → MachineState → Surroundings
surroundings split due m = record {
  split = split;
  given = due.value;
  memory = m.memory;
  state = with_lines due.lines m.state;
}

-- The step of a machine to which this is due. Split says whether the hart carries out misaligned loads and stores.
abbrev pub step : Bool → Due → MachineState → Outcome
step split due m = turn_outcome (surroundings split due (after_transfers due.transfers m))

-- ---- what the code takes and answers, and the machine that it leaves

-- The code takes transfers apart, before the step.
abbrev pub without_transfers : DueToHart → Due
without_transfers due = record { transfers = []; lines = due.lines; value = due.value }

abbrev pub step_answer : Outcome → StepAnswer
step_answer (NeedsValue what) = answer.NeedsValue what
step_answer ValueLeft = answer.ValueLeft
step_answer (Stepped after rec) = answer.Stepped rec

-- the answer of a step that is told in a record of the caller's
abbrev pub answer_with : Went → StepRec → StepAnswer
answer_with went.Stepped rec = answer.Stepped rec
answer_with (went.NeedsValue what) rec = answer.NeedsValue what
answer_with went.ValueLeft rec = answer.ValueLeft

-- Where the step isn't carried out, nothing changes.
abbrev pub machine_after : MachineState → Outcome → MachineState
machine_after m (NeedsValue what) = m
machine_after m ValueLeft = m
machine_after m (Stepped after rec) = after

-- A step that was carried out counts.
abbrev pub ticks_of : Outcome → ℕ
ticks_of (NeedsValue what) = 0
ticks_of ValueLeft = 0
ticks_of (Stepped after rec) = 1
