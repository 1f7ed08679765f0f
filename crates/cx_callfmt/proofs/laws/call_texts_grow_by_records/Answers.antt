use Rattle.cx_callfmt.proofs.Texts.{behind_index, behind_more, body_ends, body_more, last_more, one_more, records_more}
use Rattle.cx_callfmt.proofs.laws.call_texts_grow_by_records.Goals as goal

pub returns-clause-more : goal.returns-clause-more
returns-clause-more c = records_more

pub returns-clause-one : goal.returns-clause-one
returns-clause-one c = one_more

pub returns-clause-last : goal.returns-clause-last
returns-clause-last c = last_more

pub returns-clause-behind : goal.returns-clause-behind
returns-clause-behind c = behind_more

pub returns-clause-index : goal.returns-clause-index
returns-clause-index c = behind_index

pub returns-clause-body : goal.returns-clause-body
returns-clause-body c = body_more

pub returns-clause-end : goal.returns-clause-end
returns-clause-end c = body_ends
