-- What the trap leaves keeps the rules, and so it does without a reservation.
use Rattle.std.proofs.Common.{subst, sym, arith}
use Rattle.cx_csr.specs.Keeps.{Keeps}
use Rattle.cx_trap.proofs.KeptRules.{keeps-delivered}
use Rattle.cx_trap.proofs.entry.enter.Goals as goal

pub returns-clause-keeps : goal.returns-clause-keeps
returns-clause-keeps c pages k =
    assumption (subst (Keeps pages) (sym c.take_trap.ensures) (keeps-delivered pages c.args.cause c.args.tval
    c.args.state.now (omega arith) (omega arith) k))
