use Rattle.cx_commands.proofs.SliceReplays.{good_is_slice, one_list, slice_replays}
use Rattle.cx_commands.proofs.laws.process_slices_are_of_one_run.Goals as goal

pub returns-clause-slice : goal.returns-clause-slice
returns-clause-slice c = λ bytes are good. (
  (good_is_slice bytes are good).observed,
  ((good_is_slice bytes are good).can, (good_is_slice bytes are good).is),
)

pub returns-clause-good : goal.returns-clause-good
returns-clause-good c = λ os can. (slice_replays os can).refusal

pub returns-clause-lines : goal.returns-clause-lines
returns-clause-lines c = λ os can. (slice_replays os can).full

pub returns-clause-one : goal.returns-clause-one
returns-clause-one c = one_list
