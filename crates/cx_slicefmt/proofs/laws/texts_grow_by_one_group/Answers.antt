use Rattle.cx_slicefmt.proofs.Texts.{groups_more, least_more, body_more, body_end}
use Rattle.cx_slicefmt.proofs.laws.texts_grow_by_one_group.Goals as goal

pub returns-clause-more : goal.returns-clause-more
returns-clause-more c = groups_more

pub returns-clause-least : goal.returns-clause-least
returns-clause-least c = least_more

pub returns-clause-body : goal.returns-clause-body
returns-clause-body c = body_more

pub returns-clause-end : goal.returns-clause-end
returns-clause-end c = body_end
