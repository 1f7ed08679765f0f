use Rattle.std.proofs.Common.{refl}
use Rattle.cx_tellers.proofs.RootsTold.{fresh_put}
use Rattle.cx_tellers.proofs.observation_lines.ObservationLinesObservationTeller.start.Goals as goal

pub returns-clause-starts : goal.returns-clause-starts
returns-clause-starts g c = record { stands = fresh_put _ _ c.in_ok-out.ensures; keeps = refl }
