use Rattle.std.proofs.Common.{subst, sym}
use Rattle.cx_replay.specs.Replaying.{Replaying, Stands}
use Rattle.cx_replay.proofs.Answering.{told_arrives}
use Rattle.cx_replay.proofs.replay.Replay.next_into.Goals as goal

pub returns-clause-answers : goal.returns-clause-answers
returns-clause-answers g c told input begins end o whole given stands =
    let here = subst (λ (r : Replaying _). Stands o whole given r.machine r.progress
    (g.R.Records.seen r.records).bytes (g.R.Records.has r.records (g.S.Source.given c.args.source.now) input end))
    (sym c.self.view_is) stands in
    told_arrives c.advance-told.new.told c.advance-told.result o whole given c.advance-told.new.machine
    c.advance-told.new.progress (g.R.Records.seen c.advance-told.new.records).bytes
    (g.R.Records.has c.advance-told.new.records (g.S.Source.given c.advance-told.new.source) input end)
    c.advance-told.new.due end _ _
    (c.advance-told.ensures.answers told input begins end o whole given here)
