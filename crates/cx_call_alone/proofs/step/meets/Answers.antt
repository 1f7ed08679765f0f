use Rattle.std.proofs.Common.{◌∙◌}
use Rattle.cx_call_alone.proofs.Accessed.{met_all}
use Rattle.cx_call_alone.proofs.step.meets.Goals as goal

pub returns : goal.returns
returns c = λ owed owes. met_all c.args.obs.now _ _ _ _ owed _ c.all_met.ensures
    (c.as_slice.ensures.value ∙ c.bytes_seen-seen.ensures) (c.as_slice-2.ensures.value ∙ c.bytes_written-written.ensures) owes
