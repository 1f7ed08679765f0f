use Rattle.std.proofs.Common.{ap, ◌∙◌}
use Rattle.cx_replay.specs.Replaying.{Replaying, mark_of}
use Rattle.cx_replay.proofs.Marks.{mark_at_first, mark_is}
use Rattle.cx_replay.proofs.replay.Replay.mark.Goals as goal

pub returns-clause-none : goal.returns-clause-none
returns-clause-none g c gave input end o whole stands =
    c.mark.ensures ∙ ap (λ (r : Replaying _). mark_of r.progress) c.self.view_is ∙ mark_at_first stands

pub returns-clause-some : goal.returns-clause-some
returns-clause-some g c gave input end o whole given stands some =
    c.mark.ensures ∙ ap (λ (r : Replaying _). mark_of r.progress) c.self.view_is ∙ mark_is stands some
