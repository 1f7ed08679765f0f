use Rattle.std.proofs.Common.{◌∙◌, ap}
use Rattle.cx_replay.specs.Replaying.{Replaying, passed_mark}
use Rattle.cx_replay.proofs.PassedMark.{passed_mark_is}
use Rattle.cx_replay.proofs.replay.Replay.gave_mark.Goals as goal

pub returns : goal.returns
returns g c gave input end o whole given rec stands order =
    c.passed_mark.ensures ∙ ap (λ (r : Replaying _). passed_mark r.progress) c.self.view_is
    ∙ passed_mark_is o whole given rec _ _ _ _ stands order
