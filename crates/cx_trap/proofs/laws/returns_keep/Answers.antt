use Rattle.cx_trap.proofs.KeptRules.{keeps-after_mret, keeps-after_sret}
use Rattle.cx_trap.proofs.laws.returns_keep.Goals as goal

pub returns-clause-mret : goal.returns-clause-mret
returns-clause-mret c = keeps-after_mret

pub returns-clause-sret : goal.returns-clause-sret
returns-clause-sret c = keeps-after_sret
