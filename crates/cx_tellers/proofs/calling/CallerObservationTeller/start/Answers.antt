use Rattle.std.proofs.Common.{[]}
use Rattle.cx_calls.specs.Stands.{HasTaken, output_of}
use Rattle.cx_callfmt.specs.Text.{call_magic}
use Rattle.cx_calls.proofs.Growing.{begins}
use Rattle.cx_calls.specs.Begun.{calls_begun}
use Rattle.cx_tellers.proofs.FedTold.{starts_by}
use Rattle.cx_tellers.proofs.calling.CallerObservationTeller.start.Goals as goal

pub returns-clause-starts : goal.returns-clause-starts
returns-clause-starts g c =
    starts_by (calls_begun []) call_magic output_of (HasTaken []) _ _ _ _ c.new.result begins c.new.ensures.starts
    c.new.ensures.stands
