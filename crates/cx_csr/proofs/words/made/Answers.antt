-- The registers are copied whole.
use Rattle.std.proofs.Common.{append-nil, refl}
use Rattle.cx_csr.specs.Words.{state_of}
use Rattle.cx_csr.proofs.words.made.Goals as goal

pub returns : goal.returns
unfolding state_of
returns c = rw (
  append-nil c.copy_from_slice.new.self,
  c.copy_from_slice.ensures.after,
  c.csr_from_words.ensures,
  c.reservation_from_words.ensures,
) refl
