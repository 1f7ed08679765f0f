use Rattle.std.proofs.Common.{ap, arith, subst}
use Rattle.cx_window.specs.Slice.{IsWhole, Sliced}
use Rattle.cx_window.proofs.Kept.{count_step}
use Rattle.cx_window.proofs.slice.Slice.count.Goals as goal

pub loop-page-preserved : goal.loop-page-preserved
loop-page-preserved c =
    let step = count_step c.args.self.now c.loop-page.page c.keeps.result
    (subst IsWhole c.self.view_is c.self.invariant.0)
    (omega (arith, c.loop-page-test.true, ap (λ (s : Sliced). s.header.pages) c.self.view_is)) c.keeps.ensures in
    record {
      count = omega (arith, step, c.loop-page.invariant.count, c.one_if-count.ensures.value);
      within = omega (arith, c.one_if-count.ensures.most);
    }
