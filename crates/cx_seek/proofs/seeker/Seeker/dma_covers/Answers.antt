use Rattle.std.proofs.Common.{◌≡◌, subst}
use Rattle.cx_seek.specs.Dues.{due_in}
use Rattle.cx_seek.specs.Seeking.{Seeking}
use Rattle.cx_seek.proofs.Playing.{covered_by, covered_none}
use Rattle.cx_seek.proofs.seeker.Seeker.dma_covers.Goals as goal

pub returns-clause-covers : goal.returns-clause-covers
returns-clause-covers c run is below =
    covered_by run c.args.self.now c.due-handed.result.now c.args.pa _ is below
    (subst (λ (s : Seeking). c.due-handed.result.now ≡ due_in s.course.notes s.player.next s.player.at) c.self.view_is
    c.due-handed.ensures) c.covers.ensures

pub returns-clause-end : goal.returns-clause-end
returns-clause-end c run is at =
    covered_none run c.args.self.now c.due-handed.result.now c.args.pa _ is at
    (subst (λ (s : Seeking). c.due-handed.result.now ≡ due_in s.course.notes s.player.next s.player.at) c.self.view_is
    c.due-handed.ensures) c.covers.ensures
