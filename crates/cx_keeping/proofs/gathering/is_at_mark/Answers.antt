use Rattle.std.proofs.Common.{◌∙◌, None, Some, refl, sym}
use Rattle.cx_keeping.proofs.Marked.{mark_next_is}
use Rattle.cx_keeping.proofs.gathering.is_at_mark.Goals as goal

pub returns-in-Some : goal.returns-in-Some
returns-in-Some g c gave input end last o whole given stands order =
    rw c.at.ensures (mark_next_is o whole given _ c.args.replay.now.progress _ _ last (Some c.in-Some.step) stands order
    (λ none. sym c.in-Some.is ∙ c.mark.ensures.none gave input end o whole (rw none at stands))
    (λ some. sym c.in-Some.is ∙ c.mark.ensures.some gave input end o whole given stands some))

pub returns-in-None : goal.returns-in-None
returns-in-None g c gave input end last o whole given stands order =
    mark_next_is o whole given _ c.args.replay.now.progress _ _ last None stands order
    (λ none. refl)
    (λ some. sym c.in-None.is ∙ c.mark.ensures.some gave input end o whole given stands some)
