use Rattle.std.proofs.Common.{sym, subst}
use Rattle.cx_replay.specs.Replaying.{Unknown}
use Rattle.cx_seek.specs.Seeking.{StandsIn}
use Rattle.cx_seek.specs.declared.player.Player.{Player}
use Rattle.cx_seek.proofs.Playing.{stands_on}
use Rattle.cx_seek.proofs.player.Player.play.Goals as goal

pub returns-clause-stands : goal.returns-clause-stands
returns-clause-stands g c run follows stands =
    subst (λ (p : Player). StandsIn run c.args.course.now.notes p) (sym c.pass.ensures)
    (stands_on run c.args.course.now c.args.self.now c.due-handed.result.now c.take_untold.new.machine Unknown follows
    stands c.requires.from c.requires.below c.due-handed.ensures c.if-not-take_untold.ensures.step)
