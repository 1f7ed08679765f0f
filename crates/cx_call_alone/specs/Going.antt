-- A step with what is due to it; at the end nothing may be owed.
use Rattle.std.specs.Prelude.{◌≡◌, true, false, Option, None, Some, Result, Ok, Err}
use Rattle.cx_alone.specs.declared.fault.Stop.{Stop}
use Rattle.cx_alone.specs.declared.fault.Stop.TheVariants as stop
use Rattle.cx_observe.specs.declared.obs.Obs.{Obs}
use Rattle.cx_placing.specs.Called.{CallStanding}
use Rattle.cx_placing.specs.CallsAlone.{is_settled}
use Rattle.cx_call_alone.specs.Ahead.{step_held}
use Rattle.cx_call_alone.specs.Standing.{IsStanding, StepsTo}
use Rattle.cx_call_alone.specs.Stepping.{RisesIn}
use Rattle.cx_call_alone.specs.declared.ahead.Due.{Due}
use Rattle.cx_call_alone.specs.declared.ahead.Due.TheVariants as due
use Rattle.cx_call_alone.specs.declared.called.Called.{Called}

abbrev pub RisesDue : Due → Type 0
RisesDue (due.Step step) = RisesIn step.call
RisesDue due.End = Unit {0}

-- there is no next step
abbrev pub IsOver : Due → Type 0
IsOver (due.Step step) = ⊥
IsOver due.End = Unit {0}

abbrev pub GoesByCall : CallStanding → Due → Called → Result (Option Obs) Stop → Type 0
GoesByCall s (due.Step step) new (Ok (Some o)) = StepsTo s (step_held step) new (Ok o)
GoesByCall s (due.Step step) new (Err fault) = StepsTo s (step_held step) new (Err fault)
GoesByCall s due.End new (Ok None) = (is_settled s ≡ true) × IsStanding s new
GoesByCall s due.End new (Err stop.Broken) = is_settled s ≡ false
GoesByCall s d new result = ⊥
