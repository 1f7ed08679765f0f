use Rattle.std.proofs.Common.{◌∙◌}
use Rattle.cx_call_alone.proofs.Accessed.{owes_all, touched_all}
use Rattle.cx_call_alone.proofs.step.access_all.Goals as goal

pub returns-clause-touched : goal.returns-clause-touched
returns-clause-touched c = λ a. c.in_ok-standing.ensures.touched a ∙ touched_all c.args.obs.now _ _ _ a
    (c.as_slice-2.ensures.value ∙ c.bytes_seen-seen.ensures) (c.as_slice.ensures.value ∙ c.bytes_written-written.ensures)

pub returns-clause-owes : goal.returns-clause-owes
returns-clause-owes c = λ owed owes. owes_all c.args.obs.now _ _ _ _ owed
    (c.as_slice-2.ensures.value ∙ c.bytes_seen-seen.ensures) (c.as_slice.ensures.value ∙ c.bytes_written-written.ensures)
    (c.in_ok-standing.ensures.owes owed owes)
