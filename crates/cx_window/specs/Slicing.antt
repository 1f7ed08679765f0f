-- What is kept of a run for a window, as far as the run has come.
use Rattle.std.specs.Prelude.{◌≡◌, ℕ, ◌+◌, ◌-◌, ◌==◌, ◌<◌, ◌≤◌, ◌&&◌, nat_le, nat_lt, Bool, true, false, not, min, List}
use Rattle.std.specs.Prelude.{[]}
use Rattle.std.specs.Prelude.{length, take, drop, slice_index_or, replicate, Option, None, Some, IsSome, if◌then◌else◌}
use Rattle.std.specs.Prelude.{IfSome}
use Rattle.cx_csr.specs.Keeps.{Keeps}
use Rattle.cx_map.specs.Map.{size_of_pages}
use Rattle.cx_hart.specs.HartStep.{hart_step}
use Rattle.cx_hart.specs.Reads.{read_indices}
use Rattle.cx_hart.specs.Whole.{AtMoment, machine_at}
use Rattle.cx_hart.specs.declared.record.StepRec.{StepRec}
use Rattle.cx_log.specs.Order.{InOrder, at_start}
use Rattle.cx_log.specs.Recording.{Recorded, Recording}
use Rattle.cx_machine.specs.Due.{Due}
use Rattle.cx_machine.specs.Machine.{MachineState}
use Rattle.cx_ram.specs.PhysicalMemory.{SavedMemory}
use Rattle.cx_run.specs.Run.{Run, run_of}
use Rattle.cx_run.specs.StepEvents.{step_events}
use Rattle.cx_run.specs.Window.{events_between, is_read}

-- The window's first step and the one behind its last, the moment of the machine before the first step once the run
-- stood there, for each page whether a step of the window read it, and the events of these steps.
pub record Slicing : Type 0 where
  pub from : ℕ
  pub to : ℕ
  pub moment : Option AtMoment
  pub marks : List Bool
  pub events : List Recorded

-- nothing is kept yet
abbrev pub nothing_kept : ℕ → ℕ → ℕ → Slicing
nothing_kept pages from to = record {
  from = from;
  to = to;
  moment = None;
  marks = replicate pages false;
  events = [];
}

-- The run stands before a step with this machine. Where the step is the window's first, that is kept: a moment of it is
-- among the memories that are saved then.
abbrev pub IsSeen : Bool → MachineState → (before now : List (Option SavedMemory)) → Slicing → Slicing → Type 0
IsSeen true m before now s new =
    (x : AtMoment) × ((machine_at now x ≡ Some m) × (new ≡ record s { moment = Some x }))
IsSeen false m before now s new = (now ≡ before) × (new ≡ s)

-- the step is one of the window
abbrev pub is_within : Slicing → ℕ → Bool
is_within s step = nat_le s.from step && nat_lt step s.to

-- the bytes of RAM that a step reads, where it is one of the window
abbrev pub window_reads : Slicing → ℕ → StepRec → List ℕ
window_reads s step rec = if is_within s step then read_indices rec else []

-- the events of a step, where it is one of the window; a mark at its first step is left out
abbrev pub window_events : Slicing → ℕ → Bool → Due → List Recorded
window_events s step marked due = if is_within s step then step_events step (not (step == s.from) && marked) due else []

-- the machine of the moment that is kept is that of the recording before the window's first step
abbrev pub IsKeptOf : Recording → List (Option SavedMemory) → Slicing → Option AtMoment → Type 0
IsKeptOf R saved s None = Unit {0}
IsKeptOf R saved s (Some x) =
    (before : Run StepRec) × ((run_of (hart_step R.split) R (s.from - R.base) ≡ Some before)
    × (machine_at saved x ≡ Some before.machine))

-- The events of a recording are in order, up to its end.
abbrev pub HasOrder : Recording → Type 0
HasOrder R = InOrder R.pages (at_start R.base R.start) R.events R.end

-- It is what the window needs of the run of R whose steps so far have these records, with these memories saved.
pub record Slices (R : Recording) (saved : List (Option SavedMemory)) (given : List StepRec) (s : Slicing) : Type 0
  where
    pub kept : R.base ≤ s.from → IsKeptOf R saved s s.moment
    pub there : R.base ≤ s.from → s.from < R.base + length given → IsSome s.moment
    pub marks : R.base ≤ s.from → (k : ℕ) → k < length s.marks
        → slice_index_or s.marks k false ≡ is_read read_indices (take (s.to - s.from) (drop (s.from - R.base) given)) k
    pub events : R.base ≤ s.from → HasOrder R
        → s.events ≡ events_between s.from (min s.to (R.base + length given)) R.events

-- The moment is one of a machine with so many pages, which keeps the rules.
pub record IsMomentOf (pages : ℕ) (saved : List (Option SavedMemory)) (x : AtMoment) : Type 0 where
  pub machine : MachineState
  pub is : machine_at saved x ≡ Some machine
  pub keeps : Keeps pages x.state
  pub size : length machine.memory ≡ size_of_pages pages

-- What is kept fits RAM of so many pages: a mark for each, and a moment of such a machine.
pub record IsFit (pages : ℕ) (saved : List (Option SavedMemory)) (s : Slicing) : Type 0 where
  pub marks : length s.marks ≡ pages
  pub moment : IfSome s.moment (IsMomentOf pages saved)

-- the window stays, and each page has a mark as before
pub record SameWindow (old new : Slicing) : Type 0 where
  pub from : new.from ≡ old.from
  pub to : new.to ≡ old.to
  pub size : length new.marks ≡ length old.marks
