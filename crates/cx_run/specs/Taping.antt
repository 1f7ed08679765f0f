-- Where the records of a run that is taped stand before a step and inside it.
use Rattle.std.specs.Prelude.{◌≡◌, ℕ, ◌-◌, ◌<◌, ◌≤◌, ◌⊎◌}
use Rattle.cx_log.specs.Order.{next_mark}
use Rattle.cx_log.specs.declared.order.Behind.{Behind}

-- Inside a step's events, of which those of this rank and above may follow.
pub record Within (step least : ℕ) (behind : Behind) : Type 0 where
  pub order : (behind.step < step) ⊎ ((behind.step ≡ step) × (behind.least ≤ least))
  pub mark : behind.mark ≡ next_mark step

-- before the first of a step's events
pub record Ready (step : ℕ) (behind : Behind) : Type 0 where
  pub order : (behind.step < step) ⊎ ((behind.step ≡ step) × (behind.least ≡ 0))
  pub mark : behind.mark ≡ next_mark (step - 1)
