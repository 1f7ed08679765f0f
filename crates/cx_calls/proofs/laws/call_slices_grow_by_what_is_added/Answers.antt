use Rattle.cx_calls.proofs.Growing.{begins, ends, grows}
use Rattle.cx_calls.proofs.laws.call_slices_grow_by_what_is_added.Goals as goal

pub returns-clause-start : goal.returns-clause-start
returns-clause-start c = begins

pub returns-clause-body : goal.returns-clause-body
returns-clause-body c = grows

pub returns-clause-end : goal.returns-clause-end
returns-clause-end c = ends
