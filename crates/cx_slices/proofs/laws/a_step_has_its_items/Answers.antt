use Rattle.cx_slices.proofs.OneStep.{step_alone-items_at, step_alone-only}
use Rattle.cx_slices.proofs.laws.a_step_has_its_items.Goals as goal

pub returns-clause-goes : goal.returns-clause-goes
returns-clause-goes g c = step_alone-items_at

pub returns-clause-follows : goal.returns-clause-follows
returns-clause-follows g c = λ m w i o faithful size are alone. (step_alone-only m w i o faithful size are alone).follows

pub returns-clause-only : goal.returns-clause-only
returns-clause-only g c = λ m w i o faithful size are alone. (step_alone-only m w i o faithful size are alone).items
