use Rattle.cx_codec.proofs.Putting.{nothing_put}
use Rattle.cx_tellers.proofs.counting.CountingTeller.start.Goals as goal

pub returns-clause-starts : goal.returns-clause-starts
returns-clause-starts g c o whole header memory = record { stands = nothing_put _; keeps = c.new.ensures }
