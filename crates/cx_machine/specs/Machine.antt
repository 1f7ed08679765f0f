-- What a machine is between two steps, and the rules that it keeps, for RAM of a number of pages.
use Rattle.std.specs.Prelude.{◌≡◌, ℕ, ◌/◌, List, length}
use Rattle.cx_csr.specs.Keeps.{Keeps}
use Rattle.cx_csr.specs.declared.state.State.{State}
use Rattle.cx_map.specs.Bytes.{AreBytes}
use Rattle.cx_map.specs.Map.{size_of_pages}
use Rattle.cx_map.specs.declared.TheConstants.{PAGE_SIZE}

-- the state of the hart, and the bytes of RAM in order
pub record MachineState : Type 0 where
  pub state : State
  pub memory : List ℕ

-- RAM is whole pages
abbrev pub pages_of : List ℕ → ℕ
pages_of memory = length memory / PAGE_SIZE

-- the bytes of so many pages
pub record IsMemory (pages : ℕ) (memory : List ℕ) : Type 0 where
  pub size : length memory ≡ size_of_pages pages
  pub bytes : AreBytes memory

pub record IsMachine (pages : ℕ) (m : MachineState) : Type 0 where
  pub state : Keeps pages m.state
  pub memory : IsMemory pages m.memory
