use Rattle.cx_slicefmt.proofs.Entries.{reads_group, reads_end}
use Rattle.cx_slicefmt.proofs.laws.groups_read_back.Goals as goal

pub returns-clause-group : goal.returns-clause-group
returns-clause-group c = reads_group

pub returns-clause-end : goal.returns-clause-end
returns-clause-end c = reads_end
