use Rattle.cx_commands.proofs.Relogged.{calls_are_relogged, relogged_as, slice_is_relogged}
use Rattle.cx_commands.proofs.laws.slices_are_relogged.Goals as goal

pub returns-clause-good : goal.returns-clause-good
returns-clause-good c = slice_is_relogged

pub returns-clause-text : goal.returns-clause-text
returns-clause-text c = calls_are_relogged

pub returns-clause-calls : goal.returns-clause-calls
returns-clause-calls c = relogged_as
