use Rattle.cx_querying.proofs.AnswerLines.{front_waits}
use Rattle.cx_querying.proofs.lines.put_line.Goals as goal

pub returns-in-Err-NoMemory-clause-puts : goal.returns-in-Err-NoMemory-clause-puts
returns-in-Err-NoMemory-clause-puts g c R base put of stands = front_waits base put _ _ _ stands
