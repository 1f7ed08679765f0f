-- A recording: a machine as it stood before the first step, and what the outside handed to it from then on.
use Rattle.std.specs.Prelude.{ℕ, Bool, List}
use Rattle.cx_csr.specs.declared.lines.Lines as lines
use Rattle.cx_csr.specs.declared.state.State.{State}
use Rattle.cx_machine.specs.Transfers.{Transfer}

-- What the outside does before a step: bytes that a device writes to RAM, the interrupt lines from this step on, the
-- value that the step asks for. A mark does nothing; it stands at each multiple of 65,536 steps, so that a damaged
-- recording can be cut there.
pub data Event : Type 0 where
  Mark : Event
  Dma : Transfer → Event
  Lines : lines.Lines → Event
  Value : ℕ → Event

-- an event, and the step before which it comes
pub record Recorded : Type 0 where
  pub step : ℕ
  pub event : Event

-- The version is that of the format, 1 or 2. split is the flag of the hart: it carries out misaligned loads and stores.
pub record Recording : Type 0 where
  pub version : ℕ
  pub split : Bool
  pub pages : ℕ
  pub base : ℕ
  pub start : State
  pub memory : List ℕ
  pub events : List Recorded
  pub end : ℕ
