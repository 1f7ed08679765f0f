-- What an error has to show for itself: a count of faults that rose in the call that answers it.
use Rattle.std.specs.Prelude.{ℕ, ◌+◌, ◌-◌, ◌^◌, ◌<◌, ◌≤◌, Result, IsErrOf, min}

-- A count of faults rose from before to now: it is greater, or stands at the greatest number of 64 bits, where it
-- stays.
abbrev pub Rose : ℕ → ℕ → Type 0
Rose before now = min (before + 1) (2 ^ 64 - 1) ≤ now

-- The count never falls, keeps to 64 bits, and rose where the call answered the fault.
pub record HasCause {T E : Type 0} (fault : E) (before now : ℕ) (result : Result T E) : Type 0 where
  pub later : before ≤ now
  pub fits : before < 2 ^ 64 → now < 2 ^ 64
  pub failed : IsErrOf result fault → Rose before now
