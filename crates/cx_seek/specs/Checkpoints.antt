-- The moments of a machine that are kept of a run.
use Rattle.std.specs.Prelude.{◌≡◌, ℕ, ◌+◌, ◌*◌, ◌-◌, ◌≤◌, List, [], ◌∷◌, ◌++◌, length, drop, slice_get, Option, Some}
use Rattle.cx_csr.specs.Keeps.{Keeps}
use Rattle.cx_hart.specs.HartStep.{hart_step}
use Rattle.cx_hart.specs.Whole.{AtMoment, IsLive, machine_at}
use Rattle.cx_hart.specs.declared.record.StepRec.{StepRec}
use Rattle.cx_log.specs.Recording.{Recording}
use Rattle.cx_machine.specs.Machine.{MachineState}
use Rattle.cx_pages.specs.Memories.{SameOthers}
use Rattle.cx_ram.specs.PhysicalMemory.{SavedMemory}
use Rattle.cx_run.specs.Run.{Run, run_of}
use Rattle.cx_seek.specs.Dues.{Hands, Noted}
use Rattle.cx_seek.specs.declared.checkpoint.Checkpoint.{Checkpoint}

-- ---- what a machine can be put back to

-- A machine with so many pages can be put back to the moment.
pub record IsHeld (pages : ℕ) (saved : List (Option SavedMemory)) (x : AtMoment) : Type 0 where
  pub live : IsLive saved x
  pub keeps : Keeps pages x.state

-- It can be put back to each of these, and no two of them are saved under one number.
pub record AreHeld (pages : ℕ) (saved : List (Option SavedMemory)) (checkpoints : List Checkpoint) : Type 0 where
  pub held : (j : ℕ) (c : Checkpoint) → slice_get checkpoints j ≡ Some c → IsHeld pages saved c.moment
  pub apart : (i j : ℕ) (c d : Checkpoint) → slice_get checkpoints i ≡ Some c → slice_get checkpoints j ≡ Some d
      → c.moment.snap ≡ d.moment.snap → i ≡ j

-- ---- what they are of a run

-- The machine is that of the run before step n.
pub record IsMachineAt (R : Recording) (n : ℕ) (machine : MachineState) : Type 0 where
  pub run : Run StepRec
  pub there : run_of (hart_step R.split) R (n - R.base) ≡ Some run
  pub is : run.machine ≡ machine

-- The moment of the machine before step n, with the notes of the steps from there on up to another.
pub record IsCheckpoint (R : Recording) (saved : List (Option SavedMemory)) (notes : List Noted) (upto n : ℕ)
    (c : Checkpoint) : Type 0 where
  pub machine : MachineState
  pub is : machine_at saved c.moment ≡ Some machine
  pub there : IsMachineAt R n machine
  pub below : n ≤ upto
  pub next : c.next ≤ length notes
  pub hands : Hands R.events n upto (drop c.next notes)

-- They stand at the multiples of a distance.
abbrev pub AreCheckpoints : Recording → List (Option SavedMemory) → List Noted → ℕ → ℕ → List Checkpoint → Type 0
AreCheckpoints R saved notes upto distance checkpoints =
    (j : ℕ) (c : Checkpoint) → slice_get checkpoints j ≡ Some c
    → IsCheckpoint R saved notes upto (R.base + j * distance) c

-- ---- one more

-- A checkpoint more, of this machine, with the notes from this index on.
pub record Saves (pages next : ℕ) (m : MachineState) (before now : List (Option SavedMemory))
    (old new : List Checkpoint) : Type 0 where
  pub moment : AtMoment
  pub is : machine_at now moment ≡ Some m
  pub fresh : ¬ IsLive before moment
  pub others : SameOthers moment.snap before now
  pub keeps : Keeps pages moment.state
  pub more : new ≡ old ++ record { moment = moment; next = next } ∷ []
