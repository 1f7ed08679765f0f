use Rattle.cx_replay.proofs.Answering.{begins}
use Rattle.cx_replay.proofs.replay.Replay.start.Goals as goal

pub returns-clause-stands : goal.returns-clause-stands
returns-clause-stands g c given input end o whole here rises starts =
    rw c.at_base.ensures (begins whole c.args.base (g.R.Records.seen c.args.records).bytes here rises starts)
