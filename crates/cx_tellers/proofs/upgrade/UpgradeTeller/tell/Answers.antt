use Rattle.cx_tellers.proofs.Upgrading.{step_told}
use Rattle.cx_tellers.proofs.upgrade.UpgradeTeller.tell.Goals as goal

pub returns-clause-tells : goal.returns-clause-tells
returns-clause-tells g c asked o whole given base ordered at within due so_far =
    step_told o whole given c.args._rec.now base c.args.step c.args.due.now ordered at within due so_far.stands
    so_far.keeps c.put_step.ensures.puts
