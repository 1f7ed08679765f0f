use Rattle.cx_csr.proofs.LegalReads.{illegal_exactly}
use Rattle.cx_csr.proofs.laws.illegal_reads.Goals as goal

pub returns : goal.returns
returns c = illegal_exactly
