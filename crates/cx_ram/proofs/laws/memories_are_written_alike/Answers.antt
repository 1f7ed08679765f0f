use Rattle.cx_ram.proofs.SameWrites.{agree_behind, same_kept, same_then, same_written}
use Rattle.cx_ram.proofs.laws.memories_are_written_alike.Goals as goal

pub returns-clause-none : goal.returns-clause-none
returns-clause-none c = same_kept

pub returns-clause-bytes : goal.returns-clause-bytes
returns-clause-bytes c = same_written

pub returns-clause-more : goal.returns-clause-more
returns-clause-more c = same_then

pub returns-clause-agree : goal.returns-clause-agree
returns-clause-agree c = agree_behind
