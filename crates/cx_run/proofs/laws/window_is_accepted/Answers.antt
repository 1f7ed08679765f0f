use Rattle.cx_run.proofs.Accepted.{eventless_window_is_accepted, window_is_accepted}
use Rattle.cx_run.proofs.laws.window_is_accepted.Goals as goal

pub returns-clause-without_events : goal.returns-clause-without_events
returns-clause-without_events g c = eventless_window_is_accepted

pub returns-clause-with_events : goal.returns-clause-with_events
returns-clause-with_events g c = window_is_accepted
