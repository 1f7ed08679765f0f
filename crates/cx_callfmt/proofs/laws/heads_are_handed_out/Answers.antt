use Rattle.cx_callfmt.proofs.HandedOut.{bytes_one_by_one, rest_is_next}
use Rattle.cx_callfmt.proofs.laws.heads_are_handed_out.Goals as goal

pub returns-clause-one : goal.returns-clause-one
returns-clause-one c = bytes_one_by_one

pub returns-clause-next : goal.returns-clause-next
returns-clause-next c = rest_is_next
