use Rattle.std.proofs.Common.{length}
use Rattle.cx_observe.specs.User.{user}
use Rattle.cx_slicefmt.proofs.Texts.{body_end}
use Rattle.cx_slices.specs.Groups.{groups_of}
use Rattle.cx_process.proofs.Standing.{body_begins, body_grows}
use Rattle.cx_process.proofs.laws.slices_grow_by_what_is_added.Goals as goal

pub returns-clause-start : goal.returns-clause-start
returns-clause-start c = body_begins

pub returns-clause-body : goal.returns-clause-body
returns-clause-body c = body_grows

pub returns-clause-end : goal.returns-clause-end
returns-clause-end c = λ os. body_end (groups_of user os) (length os)
