use Rattle.cx_making.proofs.Writes.{writes_front}
use Rattle.cx_making.proofs.writing.write.Goals as goal

pub returns-in-Err-clause-writes : goal.returns-in-Err-clause-writes
returns-in-Err-clause-writes g c =
    rw c.from.ensures (writes_front c.args.text.now _ _ c.in-Err.fault c.in-Err.ensures.puts)
