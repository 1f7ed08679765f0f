use Rattle.cx_codec.proofs.Putting.{nothing_put}
use Rattle.cx_tellers.proofs.lines.LinesTeller.start.Goals as goal

pub returns-clause-starts : goal.returns-clause-starts
returns-clause-starts g c o whole header memory =
    record { stands = rw c.in_ok-new.ensures (nothing_put _); keeps = tt }
