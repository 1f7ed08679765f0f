-- What answers a query about the run of a recording.
use Rattle.std.specs.Prelude.{ℕ, zero, ◌+◌, ◌-◌, ◌*◌, ◌^◌, Bool, true, false, ◌&&◌, ◌||◌, nat_le, nat_lt, List, take, Option, None}
use Rattle.std.specs.Prelude.{Some, Result, Ok, Err, if◌then◌else◌, unwrap_or, ◌<◌, ◌≡◌, ◌≤◌}
use Rattle.std.specs.List.{list_any}
use Rattle.cx_csr.specs.declared.state.State.{State as HartState}
use Rattle.cx_hart.specs.HartStep.{hart_step}
use Rattle.cx_hart.specs.declared.record.Ended.{Ended}
use Rattle.cx_hart.specs.declared.record.Ended.TheVariants.{Interrupt, Retired, Trap as Trapped}
use Rattle.cx_hart.specs.declared.record.StepRec.{StepRec}
use Rattle.cx_hart.specs.declared.record.Touch.{Touch}
use Rattle.cx_log.specs.Recording.{Recording}
use Rattle.cx_machine.specs.Due.{Due}
use Rattle.cx_machine.specs.Step.{Stepped}
use Rattle.cx_machine.specs.Transfers.{Transfer}
use Rattle.cx_map.specs.Map.{size_of_pages}
use Rattle.cx_map.specs.declared.TheConstants.{RAM_START}
use Rattle.cx_run.specs.Due.{due_at}
use Rattle.cx_run.specs.Run.{Run, run_of}
use Rattle.cx_seek.specs.Dues.{covers}
use Rattle.cx_seek.specs.Seeking.{taken}
use Rattle.cx_seek.specs.declared.fault.SeekFault.{SeekFault}
use Rattle.cx_seek.specs.declared.fault.SeekFault.TheVariants.{NotThere, NoMemory}
use Rattle.cx_words.specs.declared.question.Query.{Query}
use Rattle.cx_words.specs.declared.question.Query.TheVariants.{State, Writer, Reader, Trap}
use Rattle.cx_answer.specs.Latest.{latest}
use Rattle.cx_answer.specs.declared.reply.Answer.{Answer}
use Rattle.cx_answer.specs.declared.reply.Answer.TheVariants as answer

-- ---- what a step did to a byte

-- The byte at a place is one of so many from a first one on.
abbrev pub within : ℕ → ℕ → ℕ → Bool
within place first len = nat_le first place && nat_lt place (first + len)

abbrev pub touches : ℕ → Option Touch → Bool
touches place None = false
touches place (Some t) = within place t.pa t.len

-- the step stores to it, by either part of its access
abbrev pub stores : ℕ → StepRec → Bool
stores place rec = touches place rec.write || touches place rec.write_more

-- one of these entries of page tables has it
abbrev pub walks : ℕ → List ℕ → Bool
walks place entries = list_any (λ entry. within place entry 4) entries

-- The step fetches it, loads it, or walks over it.
abbrev pub reads : ℕ → StepRec → Bool
reads place rec =
    touches place rec.fetch || touches place rec.read || touches place rec.read_more
    || walks place (take rec.walked rec.places)

abbrev pub is_trap : Ended → Bool
is_trap Retired = false
is_trap (Trapped cause) = true
is_trap (Interrupt number) = true

-- ---- what answers at one step

-- the step itself does
abbrev pub is_met : Query → StepRec → Bool
is_met (State n) rec = false
is_met (Writer place n) rec = stores place rec
is_met (Reader place n) rec = reads place rec
is_met (Trap n) rec = is_trap rec.ended

-- whether it asks who wrote a byte
abbrev pub is_of_writing : Query → Bool
is_of_writing (State n) = false
is_of_writing (Writer place n) = true
is_of_writing (Reader place n) = false
is_of_writing (Trap n) = false

-- one of the transfers of devices before it does: they write, and nothing else
abbrev pub is_covered : Query → List Transfer → Bool
is_covered (State n) transfers = false
is_covered (Writer place n) transfers = covers transfers place
is_covered (Reader place n) transfers = false
is_covered (Trap n) transfers = false

-- The step is later than the transfers before it.
abbrev pub met_with : Query → ℕ → Bool → StepRec → Option Answer
met_with query n covered rec =
    if is_met query rec then Some (answer.Step n rec.ended) else
    if covered then Some (answer.Dma n) else None

abbrev pub met_in : Query → ℕ → Due → Option (Stepped StepRec) → Option Answer
met_in query n due None = None
met_in query n due (Some stepped) = met_with query n (is_covered query due.transfers) stepped.rec

-- what answers at step n of a recording's run
unfoldable pub met_at : Recording → Query → ℕ → Option Answer
met_at R query n = met_in query n (due_at R.events n) (taken R n)

-- ---- the answer

-- the last of what answers from one step on and below another
unfoldable pub found_between : Recording → Query → ℕ → ℕ → Option Answer
found_between R query from upto = latest (met_at R query) from (upto - from)

abbrev pub state_in : Option (Run StepRec) → Answer
state_in None = answer.Nothing
state_in (Some run) = answer.State run.machine.state

-- the step that is asked about
abbrev pub step_of : Query → ℕ
step_of (State n) = n
step_of (Writer place n) = n
step_of (Reader place n) = n
step_of (Trap n) = n

-- the last of what answers before step n
abbrev pub answer_below : Recording → Query → ℕ → Answer
answer_below R query n = unwrap_or (found_between R query R.base n) answer.Nothing

-- The state before a step; or the last step or transfer before it that did what is asked; or nothing.
unfoldable pub answer_of : Recording → Query → Answer
answer_of R (State n) = state_in (run_of (hart_step R.split) R (n - R.base))
answer_of R (Writer place n) = answer_below R (Writer place n) n
answer_of R (Reader place n) = answer_below R (Reader place n) n
answer_of R (Trap n) = answer_below R (Trap n) n

-- ---- whether a query's step and place are there

-- a place in so many pages of RAM
abbrev pub is_in_ram : ℕ → ℕ → Bool
is_in_ram pages place = nat_le RAM_START place && nat_lt place (RAM_START + size_of_pages pages)

abbrev pub is_place : ℕ → Query → Bool
is_place pages (State n) = true
is_place pages (Writer place n) = is_in_ram pages place
is_place pages (Reader place n) = is_in_ram pages place
is_place pages (Trap n) = true

-- The step is one from base on up to the end, or the end, and the place is in RAM.
abbrev pub is_query_there : ℕ → ℕ → ℕ → Query → Bool
is_query_there base end pages query =
    nat_le base (step_of query) && nat_le (step_of query) end && is_place pages query

-- ---- how long it takes

-- an answer of a step that lies between two others
abbrev pub IsBetween : ℕ → ℕ → Answer → Type 0
IsBetween from upto (answer.Step m ended) = (from ≤ m) × (m < upto)
IsBetween from upto (answer.Dma m) = (from ≤ m) × (m < upto)
IsBetween from upto (answer.State s) = ⊥
IsBetween from upto answer.Nothing = ⊥

-- The most steps that an answer to what was before step n takes: for a state those that can lie between it and the
-- checkpoint before it; for a step those from it on up to n, and as many more; and else all from base on.
abbrev pub most_ticks : ℕ → ℕ → ℕ → Result Answer SeekFault → ℕ
most_ticks base distance n (Ok (answer.State s)) = distance - 1
most_ticks base distance n (Ok (answer.Step m ended)) = n - m + distance - 1
most_ticks base distance n (Ok (answer.Dma m)) = n - m + distance - 1
most_ticks base distance n (Ok answer.Nothing) = n - base
most_ticks base distance n (Err NotThere) = 0
most_ticks base distance n (Err NoMemory) = n - base
