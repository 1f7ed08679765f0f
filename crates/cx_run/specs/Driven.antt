-- A run driven by a list of what is due to each of its steps, and the recording of such a run.
use Rattle.std.specs.Prelude.{◌≢◌, ℕ, suc, ◌%◌, ◌≤◌, nat_lt, ◌==◌, ◌&&◌, Bool, List, [], ◌∷◌, ◌++◌, length, All, Option}
use Rattle.std.specs.Prelude.{IfSome, unwrap_or}
use Rattle.cx_csr.specs.declared.lines.Lines as lines
use Rattle.cx_log.specs.Recording.{Recorded, Recording}
use Rattle.cx_log.specs.declared.limits.TheConstants.{MARK_DISTANCE}
use Rattle.cx_machine.specs.Due.{Due, IsDue}
use Rattle.cx_machine.specs.Machine.{MachineState}
use Rattle.cx_machine.specs.Step.{Step}
use Rattle.cx_run.specs.Run.{Run, next_run}
use Rattle.cx_run.specs.StepEvents.{step_events}

-- where a run stands before its first step
abbrev pub at_first : {Rec : Type 0} → MachineState → Run Rec
at_first machine = record { machine = machine; records = [] }

-- The run that goes on with a step for each of these; none where one of them can't be carried out so.
abbrev pub driven : {Rec : Type 0} → Step Rec → Option (Run Rec) → List Due → Option (Run Rec)
driven step run [] = run
driven step run (due ∷ dues) = driven step (next_run step due run) dues

-- A mark stands at each multiple of the distance but 0.
abbrev pub is_marked : ℕ → Bool
is_marked step = nat_lt 0 step && (step % MARK_DISTANCE == 0)

-- the events of the steps from one on to which these are due
abbrev pub events_from : ℕ → List Due → List Recorded
events_from step [] = []
events_from step (due ∷ dues) = step_events step (is_marked step) due ++ events_from (suc step) dues

-- The recording of the steps from 0 on, to which these are due, from a machine of so many pages of RAM.
abbrev pub taped : ℕ → Bool → ℕ → MachineState → List Due → Recording
taped version split pages start dues = record {
  version = version;
  split = split;
  pages = pages;
  base = 0;
  start = start.state;
  memory = start.memory;
  events = events_from 0 dues;
  end = length dues;
}

-- What is due fits RAM of so many pages, and lines change those that stand.
abbrev pub CanTape : ℕ → lines.Lines → List Due → Type 0
CanTape pages standing [] = Unit {0}
CanTape pages standing (due ∷ dues) =
    IsDue pages due × (IfSome due.lines (λ set. set ≢ standing) × CanTape pages (unwrap_or due.lines standing) dues)

-- at most one transfer is due to each step
abbrev pub FewTransfers : List Due → Type 0
FewTransfers dues = All (λ (due : Due). length due.transfers ≤ 1) dues
