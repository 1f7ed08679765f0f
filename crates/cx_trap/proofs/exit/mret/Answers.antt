use Rattle.std.proofs.Common.{subst, sym}
use Rattle.cx_csr.specs.Keeps.{Keeps}
use Rattle.cx_trap.proofs.KeptRules.{keeps-after_mret}
use Rattle.cx_trap.proofs.exit.mret.Goals as goal

pub returns-clause-keeps : goal.returns-clause-keeps
returns-clause-keeps c pages k = subst (Keeps pages) (sym c.leave_machine.ensures)
    (keeps-after_mret pages c.args.state.now k)
