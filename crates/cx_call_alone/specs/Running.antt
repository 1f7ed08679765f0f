-- The run of a call slice so far.
use Rattle.std.specs.Prelude.{◌≡◌, ℕ, List, length, Option}
use Rattle.cx_callfmt.specs.Scan.{CallScan}
use Rattle.cx_placing.specs.Called.{CallStanding}
use Rattle.cx_placing.specs.CallsAlone.{standing_at}
use Rattle.cx_slices.specs.Observed.{Watch}
use Rattle.cx_call_alone.specs.Placed.{placed_between}
use Rattle.cx_call_alone.specs.Settled.{ran_upto, settled_calls, started}

-- Of an input that is scanned as whole these observations are the run of its first steps, and this stands behind them.
pub record HasCalled {O : Type 0} (m : Watch O ℕ) (called : O → Option ℕ) (whole : CallScan) (os : List O) (at : ℕ)
    (s : CallStanding) : Type 0 where
  pub run : ran_upto m called whole at ≡ os
  pub count : length os ≡ at
  pub stands : s ≡ standing_at m (started m whole) (placed_between m.count 0 at whole.records) os

-- All that is settled was given.
abbrev pub GaveAllCalled : {O : Type 0} → Watch O ℕ → (O → Option ℕ) → CallScan → List O → Type 0
GaveAllCalled m called whole os = settled_calls m called whole ≡ os
