use Rattle.std.proofs.Common.{subst}
use Rattle.cx_program.specs.Knowing.{known_by}
use Rattle.cx_slicefmt.specs.Engine.{items_in}
use Rattle.cx_alone.specs.Steps.{IsCarried}
use Rattle.cx_alone.proofs.Steps.{taken}
use Rattle.cx_alone.proofs.step.take_step.Goals as goal

pub returns-clause-taken : goal.returns-clause-taken
returns-clause-taken c = taken (known_by c.args.standing.now) (known_by c.hand.new.standing) (known_by c.carry.new.standing)
    (items_in c.args.items.now) c.carry.result c.in_ok-hand.ensures.0 c.in_ok-hand.ensures.1
    (subst (λ bs. IsCarried (known_by c.hand.new.standing) bs c.args.items.now.given (known_by c.carry.new.standing)
    c.carry.result) c.as_slice.ensures.value c.carry.ensures.carried)
