-- What contracts see of a machine, and of its moments.
use Rattle.std.specs.Prelude.{ℕ, Bool, List, get_or, Option, None, IsSome}
use Rattle.std.specs.Option.{option_map}
use Rattle.cx_csr.specs.declared.state.State.{State}
use Rattle.cx_machine.specs.Machine.{MachineState}
use Rattle.cx_ram.specs.PhysicalMemory.{SavedMemory}

-- its state and memory, whether it carries out misaligned loads and stores, the memories that it saved by their
-- numbers, and how many pages can still get a frame of their own without taking memory
pub record Whole : Type 0 where
  pub state : State
  pub memory : List ℕ
  pub split : Bool
  pub saved : List (Option SavedMemory)
  pub spare : ℕ

abbrev pub machine_of : Whole → MachineState
machine_of m = record { state = m.state; memory = m.memory }

-- A state, and the number under which the memory was saved that stood with it.
pub record AtMoment : Type 0 where
  pub state : State
  pub snap : ℕ

-- Among the memories that were saved there is that of the moment.
abbrev pub IsLive : List (Option SavedMemory) → AtMoment → Type 0
IsLive saved moment = IsSome (get_or saved moment.snap None)

-- the machine as it was at a moment, if its memory is still saved
abbrev pub machine_at : List (Option SavedMemory) → AtMoment → Option MachineState
machine_at saved moment = option_map (λ s. record { state = moment.state; memory = s.memory })
    (get_or saved moment.snap None)
