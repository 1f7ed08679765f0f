use Rattle.std.proofs.Common.{subst, sym}
use Rattle.cx_csr.specs.Keeps.{Keeps}
use Rattle.cx_trap.proofs.KeptRules.{keeps-after_sret}
use Rattle.cx_trap.proofs.exit.sret.Goals as goal

pub returns-clause-keeps : goal.returns-clause-keeps
returns-clause-keeps c pages k = subst (Keeps pages) (sym c.leave_supervisor.ensures)
    (keeps-after_sret pages c.args.state.now k)
