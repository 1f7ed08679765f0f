use Rattle.cx_commands.proofs.CallReplays.{calls_replay, good_is_calls, one_called}
use Rattle.cx_commands.proofs.laws.call_slices_are_of_one_run.Goals as goal

pub returns-clause-slice : goal.returns-clause-slice
returns-clause-slice c = λ bytes are good. (
  (good_is_calls bytes are good).observed,
  ((good_is_calls bytes are good).can, (good_is_calls bytes are good).is),
)

pub returns-clause-good : goal.returns-clause-good
returns-clause-good c = λ os can. (calls_replay os can).refusal

pub returns-clause-lines : goal.returns-clause-lines
returns-clause-lines c = λ os can. (calls_replay os can).full

pub returns-clause-one : goal.returns-clause-one
returns-clause-one c = one_called
