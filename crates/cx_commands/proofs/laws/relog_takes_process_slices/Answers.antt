use Rattle.cx_commands.proofs.Relogged.{relog_magic, relog_refused, relog_text, slice_relogs}
use Rattle.cx_commands.proofs.laws.relog_takes_process_slices.Goals as goal

pub returns-clause-refused : goal.returns-clause-refused
returns-clause-refused c = relog_refused

pub returns-clause-magic : goal.returns-clause-magic
returns-clause-magic c = λ bytes are. relog_magic bytes

pub returns-clause-good : goal.returns-clause-good
returns-clause-good c = slice_relogs

pub returns-clause-text : goal.returns-clause-text
returns-clause-text c = relog_text
