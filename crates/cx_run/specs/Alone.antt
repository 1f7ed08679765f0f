-- What it means that a recording's run is a part of another's.
use Rattle.std.specs.Prelude.{◌≡◌, ℕ, ◌+◌, ◌-◌, ◌/◌, Bool, IsTrue, length, drop, slice_index, Some}
use Rattle.cx_log.specs.Recording.{Recording}
use Rattle.cx_machine.specs.Machine.{MachineState}
use Rattle.cx_machine.specs.Step.{Step}
use Rattle.cx_map.specs.declared.TheConstants.{PAGE_SIZE}
use Rattle.cx_run.specs.Run.{Run, run_of}

-- Two machines in one state, with memories of one size that agree on each byte of the pages that are kept.
pub record AgreeOnPages (keep : ℕ → Bool) (p q : MachineState) : Type 0 where
  pub state : q.state ≡ p.state
  pub size : length q.memory ≡ length p.memory
  pub bytes : (i : ℕ) → IsTrue (keep (i / PAGE_SIZE)) → slice_index q.memory i ≡ slice_index p.memory i

-- The first k steps of W are the k steps of R from a on: they have the same records, and behind them the machines agree
-- on the pages that are kept.
pub record RunsAlone {Rec : Type 0} (step : Step Rec) (keep : ℕ → Bool) (R : Recording) (a : ℕ) (W : Recording)
    (k : ℕ) : Type 0 where
  pub there : Run Rec
  pub in_the_whole : run_of step R (a - R.base + k) ≡ Some there
  pub here : Run Rec
  pub alone : run_of step W k ≡ Some here
  pub records : here.records ≡ drop (a - R.base) there.records
  pub machine : AgreeOnPages keep there.machine here.machine
