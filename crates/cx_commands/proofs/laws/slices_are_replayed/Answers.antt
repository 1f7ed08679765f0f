use Rattle.cx_commands.proofs.Isolated.{lines_are_replayed, replayed_as, slice_is_replayed}
use Rattle.cx_commands.proofs.laws.slices_are_replayed.Goals as goal

pub returns-clause-good : goal.returns-clause-good
returns-clause-good c = slice_is_replayed

pub returns-clause-lines : goal.returns-clause-lines
returns-clause-lines c = lines_are_replayed

pub returns-clause-calls : goal.returns-clause-calls
returns-clause-calls c = replayed_as
