-- A window of a recording: the steps from one up to another, with the pages that they read.
use Rattle.std.specs.Prelude.{◌≡◌, ℕ, zero, suc, ◌-◌, ◌/◌, ◌<◌, ◌≤◌, nat_lt, nat_le, ◌==◌, ◌&&◌, Bool, true, false}
use Rattle.std.specs.Prelude.{List, [], ◌++◌, replicate, drop, filter, Some, if◌then◌else◌, not}
use Rattle.std.specs.List.{list_any}
use Rattle.cx_map.specs.declared.TheConstants.{PAGE_SIZE}
use Rattle.cx_ram.specs.PhysicalMemory.{page_of}
use Rattle.cx_log.specs.Recording.{Event, Mark, Recorded, Recording}
use Rattle.cx_machine.specs.Machine.{MachineState}
use Rattle.cx_machine.specs.Step.{Step}
use Rattle.cx_run.specs.Run.{Run, run_of}

-- one of these bytes of RAM lies in the page
abbrev pub any_in_page : List ℕ → ℕ → Bool
any_in_page indices page = list_any (λ i. i / PAGE_SIZE == page) indices

-- One of these steps reads a byte of the page: reads gives the indices of the bytes of RAM that a step's record names.
abbrev pub is_read : {Rec : Type 0} → (Rec → List ℕ) → List Rec → ℕ → Bool
is_read reads records page = list_any (λ r. any_in_page (reads r) page) records

-- the memory on the pages that are kept, of the pages below a number, and 0 elsewhere
abbrev pub kept_pages : (ℕ → Bool) → List ℕ → ℕ → List ℕ
kept_pages keep memory zero = []
kept_pages keep memory (suc n) = kept_pages keep memory n ++ (if keep n then page_of memory n else replicate PAGE_SIZE
    0)

abbrev pub is_mark : Event → Bool
is_mark Mark = true
is_mark _ = false

-- the events of the steps from a on and below b, without a mark at a
abbrev pub events_between : ℕ → ℕ → List Recorded → List Recorded
events_between a b events = filter (λ r. nat_le a r.step && nat_lt r.step b && not (is_mark r.event && r.step == a))
    events

-- The steps from a on and below b as a recording with all of memory, from the machine before the first of them.
abbrev pub recorded_from : Recording → ℕ → ℕ → MachineState → Recording
recorded_from R a b machine = record {
  version = R.version;
  split = R.split;
  pages = R.pages;
  base = a;
  start = machine.state;
  memory = machine.memory;
  events = events_between a b R.events;
  end = b;
}

-- The window, from the run up to a and the run up to b.
abbrev pub window_from : {Rec : Type 0} → (Rec → List ℕ) → Recording → ℕ → ℕ → Run Rec → Run Rec → Recording
window_from reads R a b before after = record {
  version = R.version;
  split = R.split;
  pages = R.pages;
  base = a;
  start = before.machine.state;
  memory = kept_pages (is_read reads (drop (a - R.base) after.records)) before.machine.memory R.pages;
  events = events_between a b R.events;
  end = b;
}

-- W is the window of R from step a up to step b.
pub record IsWindow {Rec : Type 0} (step : Step Rec) (reads : Rec → List ℕ) (R : Recording) (a b : ℕ)
    (W : Recording) : Type 0 where
  pub from : R.base ≤ a
  pub some : a < b
  pub to : b ≤ R.end
  pub before : Run Rec
  pub up_to_a : run_of step R (a - R.base) ≡ Some before
  pub after : Run Rec
  pub up_to_b : run_of step R (b - R.base) ≡ Some after
  pub is : W ≡ window_from reads R a b before after

-- the steps from one up to another are those of a window of the recording
abbrev pub has_window : Recording → ℕ → ℕ → Bool
has_window R a b = nat_le R.base a && nat_lt a b && nat_le b R.end
