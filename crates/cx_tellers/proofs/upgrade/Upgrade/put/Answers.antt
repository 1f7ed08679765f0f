use Rattle.std.proofs.Common.{arith}
use Rattle.cx_tellers.proofs.Upgrading.{none_put}
use Rattle.cx_tellers.proofs.upgrade.Upgrade.put.Goals as goal

pub may_follow-requires : goal.may_follow-requires
may_follow-requires g c = (c.self.invariant (rw (← c.self.view_is) at c.requires.live)).few

pub returns-then-not-may_follow-clause-puts : goal.returns-then-not-may_follow-clause-puts
returns-then-not-may_follow-clause-puts g c = rw (← c.self.view_is) (none_put _ _ _ _)

pub after-after-requires : goal.after-after-requires
after-after-requires g c =
    let mark = (c.self.invariant (rw (← c.self.view_is) at c.requires.live)).mark in
    omega (arith, mark)
