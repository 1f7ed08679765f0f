use Rattle.std.proofs.Common.{false}
use Rattle.cx_telling.proofs.Streamed.{stream_writes}
use Rattle.cx_top.proofs.replay.replay.Goals as goal

pub returns-in-Err-clause-answer : goal.returns-in-Err-clause-answer
returns-in-Err-clause-answer g c told input begins are = (c.in-Err.ensures.does told input begins are).0

pub returns-in-Err-clause-consumes : goal.returns-in-Err-clause-consumes
returns-in-Err-clause-consumes g c told =
    record { gave = c.in-Err.ensures.follows told; all = λ j. c.in-Err.ensures.spent told j }

pub returns-in-Err-clause-untouched : goal.returns-in-Err-clause-untouched
returns-in-Err-clause-untouched g c early = absurd (stream_writes false c.in-Err.status c.in-Err.ensures.kind early)
