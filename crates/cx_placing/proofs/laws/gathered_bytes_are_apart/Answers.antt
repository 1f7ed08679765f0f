use Rattle.cx_placing.specs.Gathering.{gathered_of}
use Rattle.cx_placing.proofs.Apart.{missed_now-apart, missed_of}
use Rattle.cx_placing.proofs.laws.gathered_bytes_are_apart.Goals as goal

pub returns-clause-missed : goal.returns-clause-missed
returns-clause-missed g c = λ m called os faithful. (missed_of m called os faithful).apart

pub returns-clause-now : goal.returns-clause-now
returns-clause-now g c = λ m called os o faithful.
    missed_now-apart m (gathered_of m called os) o faithful (missed_of m called os faithful)
