use Rattle.cx_csr.proofs.LegalReads.{illegal_for_writes}
use Rattle.cx_csr.proofs.laws.illegal_writes.Goals as goal

pub returns : goal.returns
returns c = illegal_for_writes
