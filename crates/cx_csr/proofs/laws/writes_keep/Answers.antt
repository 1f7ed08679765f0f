use Rattle.cx_csr.specs.Table.{register_at}
use Rattle.cx_csr.proofs.KeptRules.{keeps-written_at}
use Rattle.cx_csr.proofs.laws.writes_keep.Goals as goal

pub returns : goal.returns
returns c pages number value s = keeps-written_at pages (register_at number) value s
