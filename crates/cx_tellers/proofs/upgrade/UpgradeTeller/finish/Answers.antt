use Rattle.cx_tellers.proofs.Upgrading.{end_unwritten, end_written}
use Rattle.cx_tellers.proofs.upgrade.UpgradeTeller.finish.Goals as goal

pub returns-then-not-may_follow-clause-finishes : goal.returns-then-not-may_follow-clause-finishes
returns-then-not-may_follow-clause-finishes g c asked o whole given base all so_far =
    end_unwritten o whole given base c.args.end all so_far.stands so_far.keeps

pub returns-clause-finishes : goal.returns-clause-finishes
returns-clause-finishes g c asked o whole given base all so_far =
    end_written o whole given base c.args.end all (rw (← c.self.view_is) at so_far.stands)
    (rw (← c.self.view_is) at so_far.keeps) c.end.ensures
