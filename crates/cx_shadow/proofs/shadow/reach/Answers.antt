use Rattle.std.proofs.Common.{refl, ◌∙◌}
use Rattle.cx_shadow.proofs.Tables.{region_pushed}
use Rattle.cx_shadow.proofs.shadow.reach.Goals as goal

pub loop-alloc-init : goal.loop-alloc-init
loop-alloc-init c = λ n. refl

pub loop-alloc-preserved : goal.loop-alloc-preserved
loop-alloc-preserved c = λ n.
    region_pushed c.loop-alloc.regions.items c.push.new.self.items c.new.result c.in-Ok.ensures.items
    c.new.ensures.items n ∙ c.loop-alloc.invariant n

pub returns-in-Err-clause-same : goal.returns-in-Err-clause-same
returns-in-Err-clause-same c = λ n. rw c.in-Err.ensures.items (c.loop-alloc.invariant n)

pub returns-clause-same : goal.returns-clause-same
returns-clause-same c = c.loop-alloc.invariant
