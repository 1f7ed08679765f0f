use Rattle.std.proofs.Common.{refl, ◌∙◌}
use Rattle.cx_shadow.proofs.Tables.{place_pushed}
use Rattle.cx_shadow.proofs.shadow.fill.Goals as goal

pub loop-region-init : goal.loop-region-init
loop-region-init c = λ i. refl

pub loop-region-preserved : goal.loop-region-preserved
loop-region-preserved c = λ i.
    place_pushed c.loop-region.region c.push.new.self c.in-Ok.ensures.items i ∙ c.loop-region.invariant i

pub returns-clause-same : goal.returns-clause-same
returns-clause-same c = c.loop-region.invariant
