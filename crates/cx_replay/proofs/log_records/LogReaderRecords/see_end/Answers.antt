use Rattle.std.proofs.Common.{ap, ◌∙◌}
use Rattle.cx_log.specs.Engine.{Reading}
use Rattle.cx_replay.proofs.Scanning.{sees_end}
use Rattle.cx_replay.proofs.log_records.LogReaderRecords.see_end.Goals as goal

pub returns-clause-sees : goal.returns-clause-sees
returns-clause-sees g c told input begins end rest has =
    sees_end c.args.self.now c.close.new.self _ _ _ _ input end rest c.close.result c.requires.ended
    (ap (λ (r : Reading). r.ended) c.close.ensures.same ∙ c.requires.ended) (c.close.ensures.ends told) begins has
