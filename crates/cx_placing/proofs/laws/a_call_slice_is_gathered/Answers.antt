use Rattle.cx_placing.proofs.Gathering.{call_put-push, put-gathered, whole-gathered}
use Rattle.cx_placing.proofs.laws.a_call_slice_is_gathered.Goals as goal

pub returns-clause-whole : goal.returns-clause-whole
returns-clause-whole g c = whole-gathered

pub returns-clause-put : goal.returns-clause-put
returns-clause-put g c = put-gathered

pub returns-clause-grows : goal.returns-clause-grows
returns-clause-grows g c = call_put-push
