use Rattle.std.proofs.Common.{◌++◌}
use Rattle.cx_run.proofs.LaterEvents.{break_stays, more_begins_alike, order_is_above, run_of-alike}
use Rattle.cx_run.proofs.laws.runs_know_no_later_event.Goals as goal

pub returns-clause-alike : goal.returns-clause-alike
returns-clause-alike g c = run_of-alike

pub returns-clause-later : goal.returns-clause-later
returns-clause-later g c = λ step R more n later. run_of-alike step R (record R { events = R.events ++ more }) n
    (more_begins_alike R more n later)

pub returns-clause-breaks : goal.returns-clause-breaks
returns-clause-breaks g c = λ step R more m n later. break_stays step R (record R { events = R.events ++ more }) m n
    (more_begins_alike R more m later)

pub returns-clause-order : goal.returns-clause-order
returns-clause-order g c = order_is_above
