use Rattle.std.proofs.Common.{◌∙◌}
use Rattle.cx_calls.specs.Calling.{called}
use Rattle.cx_observe.specs.User.{user}
use Rattle.cx_placing.proofs.Gathering.{count_of}
use Rattle.cx_tellers.proofs.calling.CallerObservationTeller.told.Goals as goal

pub returns-clause-all : goal.returns-clause-all
returns-clause-all c os taken = c.count.ensures ∙ taken.gathered.count ∙ count_of user called os
