use Rattle.std.proofs.Common.{arith}
use Rattle.cx_tellers.proofs.front.count_pages.Goals as goal

pub loop-page-preserved : goal.loop-page-preserved
loop-page-preserved c = record {
  count = omega (arith, c.count_page-count.ensures.count, c.loop-page.invariant.count);
  within = omega (arith, c.count_page-count.ensures.most, c.loop-page.invariant.within);
}
