use Rattle.cx_codec.specs.Blocks.{whole as whole_blocks}
use Rattle.cx_tellers.proofs.counting.CountingTeller.finish.Goals as goal

pub returns-clause-finishes : goal.returns-clause-finishes
unfolding whole_blocks
returns-clause-finishes g c asked o whole given base all so_far = so_far.stands.written
